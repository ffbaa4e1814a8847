-- What is left to read is the same, and less is left to do.
use Rattle.std.proofs.Common.{◌≡◌, ◌≤◌}
use Rattle.hilti_feed.specs.Tails.{SameReading, weight}
use Rattle.hilti_feed.proofs.pieces.next_packet.Given as goal

abbrev pub invariant-pieces : goal.invariant-pieces
invariant-pieces g l =
    SameReading l.fn.tail l.tail (g.F.Files.rest l.fn.files) (g.F.Files.rest l.files)
    × (weight l.tail ≤ weight l.fn.tail)
    × (g.F.Files.files l.files ≡ g.F.Files.files l.fn.files)
    × (g.F.Files.opened l.files ≡ g.F.Files.opened l.fn.files)
    × (g.F.Files.faults l.files ≡ g.F.Files.faults l.fn.files)

abbrev pub decreases-pieces : goal.decreases-pieces
decreases-pieces g l = weight l.tail
