use Rattle.std.proofs.Common.{◌↔◌, ◌<◌, length}
use Rattle.hilti_typing.specs.Exceptions.{IsBelow}
use Rattle.hilti_program.proofs.exceptions.is_below.Given as goal

-- what is left is to ask the same of an exception above
abbrev pub invariant-loop-at : goal.invariant-loop-at
invariant-loop-at l = (l.at < length l.exceptions) × (IsBelow l.exceptions l.exception l.other ↔ IsBelow l.exceptions l.at l.other)

abbrev pub decreases-loop-at : goal.decreases-loop-at
decreases-loop-at l = l.at
