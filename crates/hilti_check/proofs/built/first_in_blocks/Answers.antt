use Rattle.std.proofs.Common.{sym, ◌∙◌, refl, length}
use Rattle.hilti_check.proofs.Scanning.{block_found, block_passed, blocks_end}
use Rattle.hilti_check.proofs.built.first_in_blocks.Goals as goal

pub returns-in-Some : goal.returns-in-Some
returns-in-Some c =
    block_found c.args.places.now c.args.blocks.now c.loop-block.left.now c.loop-block.block-index c.block-item.result c.as_slice-instructions.result.now c.in-Some.place
    c.loop-block-test.true c.block-item.is c.as_slice-instructions.ensures (sym c.in-Some.is ∙ c.in_ok-place.ensures) c.loop-block.invariant

pub loop-block-preserved : goal.loop-block-preserved
loop-block-preserved c =
    block_passed c.args.places.now c.args.blocks.now c.loop-block.left.now c.places_behind-left.result.now c.loop-block.block-index c.block-item.result c.as_slice-instructions.result.now (length c.as_slice-instructions.result.now)
    c.loop-block-test.true c.block-item.is c.as_slice-instructions.ensures (sym c.in-None.is ∙ c.in_ok-place.ensures) refl c.places_behind-left.ensures c.loop-block.invariant

pub returns : goal.returns
returns c = blocks_end c.args.places.now c.args.blocks.now c.loop-block.left.now c.loop-block.block-index c.loop-block-test.false c.loop-block.invariant
