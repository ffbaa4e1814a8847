use Rattle.std.proofs.Common.{◌≡◌, drop}
use Rattle.hilti_rows.specs.Sources.{each_of, printed_of}
use Rattle.hilti_rows.proofs.Each.{behind}
use Rattle.hilti_rows.proofs.instructions.printed.Given as goal

-- behind those that were found stand those of the operands that are left
abbrev pub invariant-loop-operand : goal.invariant-loop-operand
invariant-loop-operand l =
    each_of printed_of l.operands
    ≡ behind l.items (each_of printed_of (drop l.operand-index l.operands))
