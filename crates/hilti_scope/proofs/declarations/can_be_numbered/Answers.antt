use Rattle.std.proofs.Common.{length, ap, arith, true≢false, sym}
use Rattle.hilti_module.specs.declared.module.Module.{Module}
use Rattle.hilti_scope.specs.Items.{placed, placed_from}
use Rattle.hilti_scope.proofs.Modules.{room, count_push}
use Rattle.hilti_scope.proofs.declarations.can_be_numbered.Goals as goal

pub loop-next-init : goal.loop-next-init
unfolding placed_from
loop-next-init c = omega arith

pub returns-then-count-room : goal.returns-then-count-room
returns-then-count-room c =
    let items = c.as_slice-next-items.result.now in
    let all = room items c.loop-next.next-index c.next-item.result c.loop-next-test.true in
    let one = ap (λ (m : Module). length m.items) c.next-item.is in
    let same = ap (λ l. length (placed l)) c.as_slice-next-items.ensures in
    (λ no. absurd (true≢false (sym no)), λ few. absurd (omega (arith, all, one, same, few, c.loop-next.invariant, c.len-count.ensures)))

pub loop-next-preserved : goal.loop-next-preserved
loop-next-preserved c =
    let counted = count_push c.as_slice-next-items.result.now c.loop-next.next-index c.next-item.result c.loop-next-test.true c.next-item.is in
    omega (arith, counted, c.loop-next.invariant, c.len-count.ensures)
