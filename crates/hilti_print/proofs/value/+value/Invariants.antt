use Rattle.std.proofs.Common.{◌≡◌, ◌++◌, map, take}
use Rattle.std.specs.Option.{option_copied}
use Rattle.hilti_print.specs.Trees.{entry_text, field_text, item_text, listed, part_text, value_text}
use Rattle.hilti_print.proofs.value.+value.Given as goal

-- the parts so far are written
abbrev pub invariant-parts-loop-at : goal.invariant-parts-loop-at
invariant-parts-loop-at l =
    l.out ≡ l.fn.out ++ listed (part_text l.shapes) (map (value_text l.types) (take l.at l.trees))

-- the items so far are written
abbrev pub invariant-items-loop-at : goal.invariant-items-loop-at
invariant-items-loop-at l =
    l.out
    ≡ l.fn.out
    ++ listed (item_text (option_copied l.shape)) (map (value_text l.types) (take l.at l.trees))

-- the entries so far are written
abbrev pub invariant-value-loop-at : goal.invariant-value-loop-at
invariant-value-loop-at l =
    l.out
    ≡ l.initial.out
    ++ listed (entry_text (option_copied l.shape) (map (value_text l.types) l.values))
    (map (value_text l.types) (take l.at l.keys))

-- the fields so far are written
abbrev pub invariant-fields-loop-at : goal.invariant-fields-loop-at
invariant-fields-loop-at l =
    l.out
    ≡ l.fn.out ++ listed (field_text l.members) (map (value_text l.types) (take l.at l.trees))
