use Rattle.hilti_pool.specs.State.{core_of}
use Rattle.hilti_one.specs.Turns.{IsBetween, IsSameRun}
use Rattle.hilti_one.proofs.Ends.{turns_left}
use Rattle.hilti_one.proofs.alone.take_turns.Given as goal

abbrev pub invariant-loop-thread : goal.invariant-loop-thread
invariant-loop-thread g l = record {
  between : IsBetween g.B.Body.effect l.pool;
  same : IsSameRun l.fn.pool l.pool;
}

abbrev pub decreases-loop-thread : goal.decreases-loop-thread
decreases-loop-thread g l = turns_left (g.B.Body.effect l.pool.about) l.pool.fed l.pool.limit (core_of g.B.Body.effect l.pool)
