-- What was read stands before what is unread.
use Rattle.std.proofs.Common.{◌≡◌, ◌≤◌, ◌-◌, length}
use Rattle.hilti_feed.proofs.Beginnings.{Fronts}
use Rattle.hilti_feed.proofs.front.read_front.Given as goal

abbrev pub invariant-pieces : goal.invariant-pieces
invariant-pieces g l =
    Fronts l.front (g.F.Files.rest l.fn.files) (g.F.Files.rest l.files)
    × (length l.front ≤ 16408)
    × (g.F.Files.files l.files ≡ g.F.Files.files l.fn.files)
    × (g.F.Files.opened l.files ≡ g.F.Files.opened l.fn.files)
    × (g.F.Files.faults l.files ≡ g.F.Files.faults l.fn.files)

abbrev pub decreases-pieces : goal.decreases-pieces
decreases-pieces g l = 24 - length l.front
