use Rattle.std.proofs.Common.{refl, ◌++◌, ◌∙◌, sym, ap, codes, decimal, map, arith}
use Rattle.std.proofs.lemmas.Result.{on_ok_weaker}
use Rattle.std.specs.Option.{option_copied}
use Rattle.hilti_print.specs.Trees.{field_text, item_text, listed, named, part_text, value_at, value_text}
use Rattle.hilti_print.proofs.Layers.{tuple_text, sequence_text, set_text, map_text, fields_text, rules_text}
use Rattle.hilti_print.proofs.Entries.{all_entries, entry_more, value_found, value_missing}
use Rattle.hilti_print.proofs.Lists.{in_three, written_more}
use Rattle.hilti_print.proofs.value.+value.Goals as goal

pub items-loop-at-preserved : goal.items-loop-at-preserved
items-loop-at-preserved t c =
    written_more (item_text (option_copied c.args.shape)) (value_text c.args.types.now) c.as_slice-trees.result.now
    c.loop-at.at c.index-trees-at.result _ _ _ _ c.loop-at-test.true c.index-trees-at.is
    c.loop-at.invariant c.in_ok-before_item.ensures c.in_ok-value.ensures

pub value-returns-in_ok-parts-in-Tuple : goal.value-returns-in_ok-parts-in-Tuple
value-returns-in_ok-parts-in-Tuple t c =
    let shape = option_copied c.args.shape in
    on_ok_weaker c.append-in-Tuple-2.result
    (λ last. in_three _ _ _ _ _ _ _ _ c.in_ok-append-in-Tuple.ensures.ok c.in_ok-parts-in-Tuple.ensures last
    (ap (λ tree. value_text c.args.types.now tree shape) c.in-Tuple.is
    ∙ tuple_text c.args.types.now shape c.in-Tuple.trees
    ∙ ap (λ shapes. codes "(" ++ listed (part_text shapes) (map (value_text c.args.types.now) c.in-Tuple.trees) ++ codes ")")
    (sym c.part_shapes.ensures)))
    c.append-in-Tuple-2.ensures.ok

pub value-returns-in_ok-items-in-Set : goal.value-returns-in_ok-items-in-Set
value-returns-in_ok-items-in-Set t c =
    let shape = option_copied c.args.shape in
    on_ok_weaker c.append-in-Set-2.result
    (λ last. in_three _ _ _ _ _ _ _ _ c.in_ok-append-in-Set.ensures.ok c.in_ok-items-in-Set.ensures last
    (ap (λ tree. value_text c.args.types.now tree shape) c.in-Set.is
    ∙ set_text c.args.types.now shape c.in-Set.keys
    ∙ ap (λ shape. codes "{" ++ listed (item_text shape) (map (value_text c.args.types.now) c.in-Set.keys) ++ codes "}")
    (sym c.item_shape.ensures)))
    c.append-in-Set-2.ensures.ok

pub value-returns-in_ok-fields-in-Fields : goal.value-returns-in_ok-fields-in-Fields
value-returns-in_ok-fields-in-Fields t c =
    let shape = option_copied c.args.shape in
    on_ok_weaker c.append-in-Fields-2.result
    (λ last. in_three _ _ _ _ _ _ _ _ c.in_ok-append-in-Fields.ensures.ok c.in_ok-fields-in-Fields.ensures last
    (ap (λ tree. value_text c.args.types.now tree shape) c.in-Fields.is
    ∙ fields_text c.args.types.now shape c.in-Fields.trees
    ∙ ap (λ members. codes "<" ++ listed (field_text members) (map (value_text c.args.types.now) c.in-Fields.trees) ++ codes ">")
    (sym c.members_of.ensures)))
    c.append-in-Fields-2.ensures.ok

pub value-returns-in_ok-number-in-Rules : goal.value-returns-in_ok-number-in-Rules
value-returns-in_ok-number-in-Rules t c =
    let shape = option_copied c.args.shape in
    on_ok_weaker c.append-in-Rules-2.result
    (λ last. in_three _ _ _ _ _ _ _ _ c.in_ok-append-in-Rules.ensures.ok c.in_ok-number-in-Rules.ensures last
    (ap (λ tree. value_text c.args.types.now tree shape) c.in-Rules.is
    ∙ rules_text c.args.types.now shape c.in-Rules.fields c.in-Rules.priorities c.in-Rules.values c.in-Rules.compiled
    ∙ ap (λ n. codes "classifier(" ++ decimal n ++ codes ")") (sym c.len.ensures)))
    c.append-in-Rules-2.ensures.ok

pub value-returns-in_ok-items-in-List : goal.value-returns-in_ok-items-in-List
value-returns-in_ok-items-in-List t c =
    let shape = option_copied c.args.shape in
    on_ok_weaker c.append-in-List-2.result
    (λ last. in_three _ _ _ _ _ _ _ _ c.in_ok-append-in-List.ensures.ok c.in_ok-items-in-List.ensures last
    (sequence_text c.args.types.now shape c.args.tree.now c.in-List.trees c.in-List.is
    ∙ ap (λ shape. codes "[" ++ listed (item_text shape) (map (value_text c.args.types.now) c.in-List.trees) ++ codes "]")
    (sym c.item_shape-in-List.ensures)))
    c.append-in-List-2.ensures.ok

pub parts-loop-at-preserved : goal.parts-loop-at-preserved
parts-loop-at-preserved t c =
    written_more (part_text c.args.shapes.now) (value_text c.args.types.now) c.as_slice-trees.result.now
    c.loop-at.at c.index-trees-at.result _ _ _ _ c.loop-at-test.true c.index-trees-at.is
    c.loop-at.invariant c.in_ok-before_item.ensures
    (c.in_ok-value.ensures
    ∙ ap (λ shape. c.before_item.new.out ++ value_text c.args.types.now c.index-trees-at.result shape) c.at_place.ensures)

pub fields-loop-at-preserved : goal.fields-loop-at-preserved
fields-loop-at-preserved t c =
    let place = c.loop-at.at in
    let text = value_text c.args.types.now c.index-trees-at.result in
    written_more (field_text c.args.members.now) (value_text c.args.types.now) c.as_slice-trees.result.now
    place c.index-trees-at.result _ _ _ _ c.loop-at-test.true c.index-trees-at.is
    c.loop-at.invariant c.in_ok-before_item.ensures
    (in_three _ _ _ _ _ _ _ _ (c.in_ok-name.ensures ∙ ap (λ name. c.before_item.new.out ++ named name place) c.name_at.ensures)
    c.in_ok-append.ensures.ok
    (c.in_ok-value.ensures ∙ ap (λ shape. c.append.new.self ++ text shape) c.kind_at.ensures) refl)

pub tree_at-returns-in-Some : goal.tree_at-returns-in-Some
tree_at-returns-in-Some t c =
    on_ok_weaker c.value.result
    (λ written. written ∙ ap (λ text. c.args.out.now ++ text)
    (value_found (value_text c.args.types.now) c.args.trees.now (option_copied c.args.shape) c.args.at
    c.in-Some.found.now c.in-Some.ensures))
    c.value.ensures

pub tree_at-returns-in-None : goal.tree_at-returns-in-None
tree_at-returns-in-None t c =
    value_missing (value_text c.args.types.now) c.args.trees.now (option_copied c.args.shape) c.args.at
    c.args.out.now c.in-None.ensures

pub value-loop-at-preserved : goal.value-loop-at-preserved
value-loop-at-preserved t c =
    let place = c.loop-at.at in
    let texts = value_text c.args.types.now in
    let shape = option_copied c.args.shape in
    let keys = c.in-Map.keys in
    let values = c.in-Map.values in
    entry_more texts keys values shape place _ _ _ _ _ _
    (omega (arith, c.loop-at-test.true, c.len-at-end.ensures))
    c.loop-at.invariant c.in_ok-before_item-in-Map.ensures
    (c.in_ok-tree_at-in-Map.ensures
    ∙ ap (λ shape. c.before_item.new.out ++ value_at (map texts keys) shape place) c.key_shape.ensures)
    c.in_ok-append-in-Map-2.ensures.ok
    (c.in_ok-tree_at-in-Map-2.ensures
    ∙ ap (λ shape. c.append-in-loop-at.new.self ++ value_at (map texts values) shape place) c.value_shape.ensures)

pub value-returns-after-loop-at : goal.value-returns-after-loop-at
value-returns-after-loop-at t c =
    let texts = value_text c.args.types.now in
    let shape = option_copied c.args.shape in
    let keys = c.in-Map.keys in
    let values = c.in-Map.values in
    on_ok_weaker c.append-in-Map-2.result
    (λ last. in_three _ _ _ _ _ _ _ _ c.in_ok-append-in-Map.ensures.ok
    (all_entries texts keys values shape c.loop-at.at _ _
    (omega (arith, c.loop-at-test.false, c.len-at-end.ensures)) c.loop-at.invariant)
    last
    (ap (λ tree. texts tree shape) c.in-Map.is ∙ map_text c.args.types.now shape keys values))
    c.append-in-Map-2.ensures.ok
