-- What was skipped, and what is left to read behind it.
use Rattle.std.proofs.Common.{◌≡◌}
use Rattle.hilti_feed.specs.Known.{Related}
use Rattle.hilti_feed.specs.Tails.{reading_of, weight}
use Rattle.hilti_feed.specs.Progress.{Skipped}
use Rattle.hilti_feed.proofs.progress.skip_packets.Given as goal

abbrev pub invariant-packets : goal.invariant-packets
invariant-packets g l =
    Related (λ rest rest'. Skipped l.more (reading_of l.fn.tail rest) (reading_of l.tail rest'))
    (g.F.Files.rest l.fn.files) (g.F.Files.rest l.files)
    × (g.F.Files.files l.files ≡ g.F.Files.files l.fn.files)
    × (g.F.Files.opened l.files ≡ g.F.Files.opened l.fn.files)
    × (g.F.Files.faults l.files ≡ g.F.Files.faults l.fn.files)

abbrev pub decreases-packets : goal.decreases-packets
decreases-packets g l = weight l.tail
