use Rattle.std.proofs.Common.{arith}
use Rattle.hilti_tree.proofs.Added.{none_deeper}
use Rattle.hilti_keys.proofs.Parts.{next_alike}
use Rattle.hilti_keys.proofs.orders.+order.Goals as goal

pub order_parts-order-part_order-requires : goal.order_parts-order-part_order-requires
order_parts-order-part_order-requires t c =
    let deep = none_deeper c.args.parts.now c.as_slice-left.result.now c.loop-at.at c.index-left-at.result c.as_slice-left.ensures
    c.loop-at-test.true c.index-left-at.is in (
      omega (arith, deep),
      next_alike c.as_slice-left.result.now c.as_slice-right.result.now c.loop-at.at c.index-left-at.result c.index-right-at.result
          c.loop-at-test.true c.index-left-at.is c.index-right-at.is c.loop-at.invariant.1,
    )
