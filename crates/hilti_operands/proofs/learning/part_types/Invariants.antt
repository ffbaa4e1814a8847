use Rattle.std.proofs.Common.{◌≡◌, map, take}
use Rattle.hilti_typing.specs.Fits.{given}
use Rattle.hilti_operands.proofs.learning.part_types.Given as goal

-- the types of the items so far
abbrev pub invariant-loop-item : goal.invariant-loop-item
invariant-loop-item l = l.parts ≡ map given (take l.item-index l.item-items)
