use Rattle.std.proofs.Common.{take, arith}
use Rattle.hilti_heap.specs.Held.{held, all_held}
use Rattle.hilti_heap.proofs.Shedding.{ready_rest, held_upto}
use Rattle.hilti_heap.proofs.Shedding.{none_deeper}
use Rattle.hilti_heap.proofs.shelf.Shelf.+lower.Goals as goal

pub lower_values-lower_value-requires : goal.lower_values-lower_value-requires
lower_values-lower_value-requires t c =
    let deep = none_deeper c.args.values.now c.as_slice-value-items.result.now
    c.loop-value.value-index c.value-item.result c.as_slice-value-items.ensures
    c.loop-value-test.true c.value-item.is in (
      omega (arith, deep),
      ready_rest c.args.self.now c.loop-value.self (λ s. all_held s (take
          c.loop-value.value-index
          c.as_slice-value-items.result.now)) (λ s. held s c.value-item.result) (λ s. all_held s
          c.args.values.now) c.requires c.loop-value.invariant
          (λ s. held_upto s c.args.values.now c.as_slice-value-items.result.now c.loop-value.value-index
          c.value-item.result c.as_slice-value-items.ensures c.loop-value-test.true
          c.value-item.is),
    )
