use Rattle.hilti_heap.specs.declared.object.Object.TheVariants.{Bound}
use Rattle.hilti_heap.proofs.Standing.{create_with}
use Rattle.hilti_heap_ops.proofs.callables.callable_bind.Goals as goal

pub returns : goal.returns
returns c =
    create_with (Bound c.args.function c.args.arguments) c.in_ok-callable.callable c.args.heap.now
    c.hold_values.new.self c.create.new.heap c.in_ok-hold_values.ensures.ok
    c.in_ok-callable.ensures
