use Rattle.std.proofs.Common.{◌≡◌, drop}
use Rattle.hilti_rows.specs.Sources.{each_of}
use Rattle.hilti_rows.proofs.Each.{behind}
use Rattle.hilti_code.specs.Rows.{block_rows}
use Rattle.hilti_code.proofs.code.of_function.Given as goal

-- behind those that were made stand those of the blocks that are left
abbrev pub invariant-loop-block : goal.invariant-loop-block
invariant-loop-block l =
    each_of block_rows l.function.blocks
    ≡ behind l.blocks (each_of block_rows (drop l.block-index l.function.blocks))
