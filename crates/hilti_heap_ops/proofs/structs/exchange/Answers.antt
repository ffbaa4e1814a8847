use Rattle.hilti_heap.proofs.Standing.{changes_to}
use Rattle.hilti_heap_ops.specs.Meaning.{with_field}
use Rattle.hilti_heap_ops.proofs.structs.exchange.Goals as goal

pub returns-clause-after : goal.returns-clause-after
returns-clause-after c =
    changes_to c.args.heap.now c.args.to.now (with_field c.args.at c.args.field)
    c.in-Some.object.now c.exchange_in.new.object (c.in-Some.ensures).value
    (c.in-Some.ensures).changes c.exchange_in.ensures.after
