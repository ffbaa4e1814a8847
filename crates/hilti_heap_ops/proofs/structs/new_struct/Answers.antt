use Rattle.hilti_heap_ops.proofs.Fields.{new_goes}
use Rattle.hilti_heap_ops.proofs.structs.new_struct.Goals as goal

pub returns : goal.returns
returns c =
    new_goes c.in_ok-unset.unset c.args.fields c.in_ok-value.value c.args.heap.now
    c.create.new.heap c.in_ok-unset.ensures c.in_ok-value.ensures
