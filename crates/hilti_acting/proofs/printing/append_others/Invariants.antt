use Rattle.std.proofs.Common.{◌≡◌, ◌++◌, take, codes, flat_map}
use Rattle.hilti_acting.specs.Printed.{shown_text}
use Rattle.hilti_acting.proofs.printing.append_others.Given as goal

-- the texts so far
abbrev pub invariant-loop-item : goal.invariant-loop-item
invariant-loop-item l =
    l.out ≡ l.initial.out
    ++ flat_map (λ item. codes " " ++ shown_text l.types l.stack.slots l.globals item)
    (take l.item-index l.items)
