use Rattle.std.proofs.Common.{◌≡◌, drop}
use Rattle.hilti_rows.specs.Resolving.{row_of}
use Rattle.hilti_rows.specs.Sources.{each_of}
use Rattle.hilti_rows.proofs.Each.{behind}
use Rattle.hilti_code.proofs.code.of_block.Given as goal

-- behind those that were made stand those of the instructions that are left
abbrev pub invariant-loop-instruction : goal.invariant-loop-instruction
invariant-loop-instruction l =
    each_of row_of l.block.instructions
    ≡ behind l.rows (each_of row_of (drop l.instruction-index l.block.instructions))
