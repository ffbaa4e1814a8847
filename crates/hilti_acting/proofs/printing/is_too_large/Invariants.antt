use Rattle.std.proofs.Common.{◌≡◌, ◌+◌, map, take}
use Rattle.hilti_tree.specs.Sizes.{forest_size}
use Rattle.hilti_acting.proofs.Sizes.{item_tree}
use Rattle.hilti_acting.proofs.printing.is_too_large.Given as goal

-- what is left behind the trees so far
abbrev pub invariant-loop-item : goal.invariant-loop-item
invariant-loop-item l =
    l.left + forest_size (map (item_tree l.stack.slots l.globals) (take l.item-index l.items))
    ≡ 1000000
