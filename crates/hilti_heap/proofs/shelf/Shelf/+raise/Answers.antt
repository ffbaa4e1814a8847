use Rattle.std.proofs.Common.{arith}
use Rattle.hilti_heap.proofs.Shedding.{none_deeper}
use Rattle.hilti_heap.proofs.Raising.{known_next, overflows_next, failed}
use Rattle.hilti_heap.proofs.shelf.Shelf.+raise.Goals as goal

pub raise_values-raise_value-requires : goal.raise_values-raise_value-requires
raise_values-raise_value-requires t c =
    let deep = none_deeper c.args.values.now c.as_slice-value-items.result.now
    c.loop-value.value-index c.value-item.result c.as_slice-value-items.ensures
    c.loop-value-test.true c.value-item.is in (
      omega (arith, deep),
      known_next c.args.self.now c.loop-value.self c.args.values.now
          c.as_slice-value-items.result.now c.loop-value.value-index c.value-item.result _
          c.as_slice-value-items.ensures c.loop-value-test.true c.value-item.is c.requires
          c.loop-value.invariant.raised,
    )

pub raise_values-returns-in_err-raise_value-clause-full :
    goal.raise_values-returns-in_err-raise_value-clause-full
raise_values-returns-in_err-raise_value-clause-full t c =
    failed c.from_residual.result (overflows_next c.args.self.now c.loop-value.self c.args.values.now
    c.as_slice-value-items.result.now c.loop-value.value-index c.value-item.result
    c.as_slice-value-items.ensures c.loop-value-test.true c.value-item.is
    c.loop-value.invariant.raised (c.in_err-raise_value.ensures).full)
