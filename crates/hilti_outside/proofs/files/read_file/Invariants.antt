-- What was read, and then what is left, is the whole file.
use Rattle.std.proofs.Common.{◌≡◌, ◌≤◌, ◌-◌, [], ◌∷◌, length, Some}
use Rattle.hilti_outside.specs.Contents.{FileMap, Grows, content}
use Rattle.hilti_outside.proofs.Pieces.{Leaves}
use Rattle.hilti_outside.proofs.files.read_file.Given as goal

abbrev pub invariant-pieces : goal.invariant-pieces
invariant-pieces g l =
    (g.F.Files.files l.files ≡ g.F.Files.files l.fn.files)
    × (g.F.Files.faults l.files ≡ g.F.Files.faults l.fn.files)
    × Grows (g.F.Files.opened l.fn.files) (g.F.Files.opened l.files) (l.name ∷ [])
    × (length l.bytes ≤ l.limit)
    × ((all : FileMap) → g.F.Files.files l.fn.files ≡ Some all → Leaves l.bytes (g.F.Files.rest l.files) (content all l.name))

abbrev pub decreases-pieces : goal.decreases-pieces
decreases-pieces g l = l.limit - length l.bytes
