use Rattle.hilti_acting.proofs.Answering.{operand_kept, reads}
use Rattle.hilti_acting.proofs.arguments.make.Goals as goal

pub hold_share-requires : goal.hold_share-requires
hold_share-requires c =
    operand_kept c.args.memory.now.heap c.args.stack.now c.args.memory.now.globals.items
    c.args.source.now _ c.requires.free c.requires.fits
    (reads c.args.stack.now.slots c.args.memory.now.globals.items c.as_slice.result.now
    c.args.source.now c.value_at-value.result.now c.as_slice.ensures.value
    c.value_at-value.ensures)
