use Rattle.std.proofs.Common.{◌≡◌, drop}
use Rattle.hilti_typing.specs.Fits.{first_width}
use Rattle.hilti_rows.proofs.numbers.first_bits.Given as goal

-- no operand so far is a variable of a type of whole numbers
abbrev pub invariant-loop-operand : goal.invariant-loop-operand
invariant-loop-operand l =
    first_width l.operands ≡ first_width (drop l.operand-index l.operands)
