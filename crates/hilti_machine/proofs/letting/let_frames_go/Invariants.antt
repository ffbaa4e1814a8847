use Rattle.std.proofs.Common.{length}
use Rattle.hilti_machine.proofs.Emptying.{Remain}
use Rattle.hilti_machine.proofs.letting.let_frames_go.Given as goal

abbrev pub invariant-frames : goal.invariant-frames
invariant-frames l = Remain l.initial.memory l.stack l.memory

abbrev pub decreases-frames : goal.decreases-frames
decreases-frames l = length l.stack.below
