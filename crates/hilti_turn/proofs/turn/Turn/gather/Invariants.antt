use Rattle.std.proofs.Common.{vec_len}
use Rattle.hilti_turn.proofs.Rows.{Gathers}
use Rattle.hilti_turn.proofs.turn.Turn.gather.Given as goal

abbrev pub invariant-loop-pass : goal.invariant-loop-pass
invariant-loop-pass g l = Gathers l.self l.fn.passes.items l.passes.items l.last

abbrev pub decreases-loop-pass : goal.decreases-loop-pass
decreases-loop-pass g l = vec_len l.passes
