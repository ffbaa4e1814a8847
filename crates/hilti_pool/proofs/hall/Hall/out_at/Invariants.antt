-- No one so far is the worker.
use Rattle.std.proofs.Common.{◌≡◌, All, take}
use Rattle.hilti_pool.proofs.hall.Hall.out_at.Given as goal

abbrev pub invariant-loop-away : goal.invariant-loop-away
invariant-loop-away g l = All (λ away. ¬ (away.worker ≡ l.worker)) (take l.away-index l.away-items)
