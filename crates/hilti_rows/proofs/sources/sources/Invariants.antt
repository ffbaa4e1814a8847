use Rattle.std.proofs.Common.{◌≡◌, drop}
use Rattle.hilti_rows.specs.Sources.{sources_of}
use Rattle.hilti_rows.proofs.Each.{behind}
use Rattle.hilti_rows.proofs.sources.sources.Given as goal

-- behind those that were found stand those of the operands that are left
abbrev pub invariant-loop-operand : goal.invariant-loop-operand
invariant-loop-operand l =
    sources_of l.operands ≡ behind l.found (sources_of (drop l.operand-index l.operands))
