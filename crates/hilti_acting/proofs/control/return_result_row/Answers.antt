use Rattle.hilti_acting.proofs.Answering.{operand_kept, reads}
use Rattle.hilti_acting.proofs.control.return_result_row.Goals as goal

pub hold_share-requires : goal.hold_share-requires
hold_share-requires c =
    operand_kept c.args.memory.now.heap c.args.stack.now c.args.memory.now.globals.items
    c.args.value.now _ c.requires.free c.requires.stands.fits
    (reads c.args.stack.now.slots c.args.memory.now.globals.items c.as_slice.result.now
    c.args.value.now c.value_at-source.result.now c.as_slice.ensures.value
    c.value_at-source.ensures)
