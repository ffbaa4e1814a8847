use Rattle.hilti_heap.proofs.Lowering.{ready_there}
use Rattle.hilti_heap.proofs.shelf.Shelf.lower.Goals as goal

pub unreachable-requires : goal.unreachable-requires
unreachable-requires c = ready_there c.args.self.now c.args.at.now c.requires
    (rw c.as_slice.ensures.value at (c.in-None.ensures).none)
