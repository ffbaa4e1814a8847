use Rattle.std.proofs.Common.{take}
use Rattle.hilti_heap.specs.Held.{held, all_held}
use Rattle.hilti_heap.proofs.Shedding.{held_upto}
use Rattle.hilti_acting.proofs.Counts.{covers_rest}
use Rattle.hilti_acting.proofs.returning.let_go.Goals as goal

pub release_value-requires : goal.release_value-requires
release_value-requires c =
    covers_rest c.args.heap.now c.loop-value.heap
    (λ s. all_held s (take c.loop-value.value-index c.slots-slots.result.now))
    (λ s. held s c.value-item.result) (λ s. all_held s c.args.stack.now.slots) c.requires
    c.loop-value.invariant
    (λ s. held_upto s c.args.stack.now.slots c.slots-slots.result.now c.loop-value.value-index
    c.value-item.result c.slots-slots.ensures c.loop-value-test.true c.value-item.is)
