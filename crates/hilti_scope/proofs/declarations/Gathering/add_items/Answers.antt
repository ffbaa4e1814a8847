use Rattle.std.proofs.Common.{rules, ◌++◌, take, arith, subst, take_all}
use Rattle.hilti_scope.specs.Items.{placed_in}
use Rattle.hilti_scope.specs.Gathered.{IsBehind, AreNames}
use Rattle.hilti_scope.proofs.Modules.{placed_in-more, length-placed_in}
use Rattle.hilti_scope.proofs.declarations.Gathering.add_items.Goals as goal

pub add_item-requires : goal.add_item-requires
add_item-requires c =
    let before = c.requires.0 in
    let counted = length-placed_in before 0 c.args.items.now c.loop-item.item-index c.loop-item.auto.item-index-end in
    let fits = c.requires.2 in
    (before ++ placed_in 0 (take c.loop-item.item-index c.args.items.now), c.loop-item.invariant.behind before 0 c.requires.1, omega (arith, counted, fits))

pub loop-item-preserved : goal.loop-item-preserved
loop-item-preserved c = record {
  behind = λ before file behind.
      subst (λ l. IsBehind l c.add_item.new.self) (placed_in-more before file c.args.items.now c.loop-item.item-index c.item-item.result c.loop-item-test.true c.item-item.is)
      (c.in_ok-add_item.ensures.behind _ file (c.loop-item.invariant.behind before file behind));
  names = λ before file behind names.
      subst (λ l. AreNames file l c.add_item.new.names) (placed_in-more before file c.args.items.now c.loop-item.item-index c.item-item.result c.loop-item-test.true c.item-item.is)
      (c.in_ok-add_item.ensures.names _ file (c.loop-item.invariant.behind before file behind) (c.loop-item.invariant.names before file behind names));
  kept = search rules;
}

pub returns-clause-behind : goal.returns-clause-behind
returns-clause-behind c = λ before file behind.
    subst (λ l. IsBehind (before ++ placed_in file l) c.loop-item.self) (take_all c.loop-item.item-index c.args.items.now (omega arith)) (c.loop-item.invariant.behind before file behind)
