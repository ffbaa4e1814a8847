use Rattle.std.proofs.Common.{take, subst}
use Rattle.hilti_scope.specs.Items.{placed}
use Rattle.hilti_scope.specs.Gathered.{IsGathered}
use Rattle.hilti_scope.proofs.Modules.{fits, take_push}
use Rattle.hilti_scope.proofs.declarations.Declarations.of.Goals as goal

pub add_module-requires : goal.add_module-requires
add_module-requires c =
    let items = c.as_slice-next-items.result.now in
    (placed (take c.loop-next.next-index items), c.loop-next.invariant.is_behind, fits c.args.modules.now items c.loop-next.next-index c.next-item.result c.as_slice-next-items.ensures c.loop-next-test.true c.next-item.is c.requires)

pub loop-next-preserved : goal.loop-next-preserved
loop-next-preserved c =
    let items = c.as_slice-next-items.result.now in
    subst (λ l. IsGathered l c.add_module.new.self) (take_push items c.loop-next.next-index c.next-item.result c.loop-next-test.true c.next-item.is) (c.in_ok-add_module.ensures (take c.loop-next.next-index items) c.loop-next.invariant)
