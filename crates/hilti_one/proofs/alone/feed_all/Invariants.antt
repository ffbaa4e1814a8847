use Rattle.std.proofs.Common.{length}
use Rattle.hilti_one.proofs.Feeding.{IsFeeding}
use Rattle.hilti_one.proofs.alone.feed_all.Given as goal

abbrev pub invariant-loop-call : goal.invariant-loop-call
invariant-loop-call g l = IsFeeding g.B.Body.sound l.fn.calls l.left.items l.fn.pool l.pool

abbrev pub decreases-loop-call : goal.decreases-loop-call
decreases-loop-call g l = length l.left.items
