-- The calls so far stand before those that are left.
use Rattle.std.proofs.Common.{◌≡◌}
use Rattle.std.specs.List.{All}
use Rattle.hilti_feed.specs.Calls.{IsCallOf}
use Rattle.hilti_feed.specs.Progress.{SameMaking, calls_weight}
use Rattle.hilti_feed.proofs.Givings.{SameEnding}
use Rattle.hilti_feed.proofs.Wholes.{SoFar}
use Rattle.hilti_feed.proofs.whole.calls_to_end.Given as goal

abbrev pub invariant-calls : goal.invariant-calls
invariant-calls g l =
    SoFar l.calls l.fn.progress l.progress (g.F.Files.rest l.fn.files) (g.F.Files.rest l.files)
    × SameEnding l.fn.progress l.progress (g.F.Files.rest l.fn.files) (g.F.Files.rest l.files)
    × All (IsCallOf l.fn.progress.packet l.fn.progress.done) l.calls
    × SameMaking l.fn.progress l.progress
    × (l.progress.outcome ≡ l.fn.progress.outcome)
    × (g.F.Files.files l.files ≡ g.F.Files.files l.fn.files)
    × (g.F.Files.opened l.files ≡ g.F.Files.opened l.fn.files)
    × (g.F.Files.faults l.files ≡ g.F.Files.faults l.fn.files)

abbrev pub decreases-calls : goal.decreases-calls
decreases-calls g l = calls_weight l.progress
