use Rattle.std.proofs.Common.{length}
use Rattle.hilti_acting.proofs.Unwinding.{Ended}
use Rattle.hilti_acting.proofs.raising.raised.Given as goal

-- the frames so far ended
abbrev pub invariant-frames : goal.invariant-frames
invariant-frames l =
    Ended l.program l.exception l.text l.fn.stack l.fn.memory l.stack l.memory

abbrev pub decreases-frames : goal.decreases-frames
decreases-frames l = length l.stack.below
