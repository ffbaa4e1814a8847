-- The least stamp so far.
use Rattle.std.proofs.Common.{map, take}
use Rattle.hilti_timers.specs.Kept.{IsLeast, stamp}
use Rattle.hilti_timers.proofs.manager.least.Given as goal

abbrev pub invariant-loop-waiting : goal.invariant-loop-waiting
invariant-loop-waiting g l = IsLeast l.t (map stamp (take l.waiting-index l.entries)) l.best
