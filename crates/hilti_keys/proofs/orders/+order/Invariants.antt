use Rattle.std.proofs.Common.{◌≡◌, IsTrue, drop, map}
use Rattle.hilti_keys.specs.Keys.{alike, all_pass}
use Rattle.hilti_keys.specs.Orders.{in_turn, order_of}
use Rattle.hilti_keys.proofs.orders.+order.Given as goal

-- what is left stands as all parts do, each of one type with its counterpart
abbrev pub invariant-order_parts-loop-at : goal.invariant-order_parts-loop-at
invariant-order_parts-loop-at l =
    (in_turn (map order_of (drop l.at l.left)) (drop l.at l.right)
    ≡ in_turn (map order_of l.left) l.right)
    × IsTrue (all_pass (map alike (drop l.at l.left)) (drop l.at l.right))
