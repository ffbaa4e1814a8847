use Rattle.std.proofs.Common.{ap, sym, arith, length, take}
use Rattle.std.proofs.lemmas.List.{take_all}
use Rattle.hilti_module.specs.declared.module.Module.{Module}
use Rattle.hilti_scope.specs.Items.{placed}
use Rattle.hilti_declared.proofs.Placing.{none_placed, count_more, placed_there, placed_few, room}
use Rattle.hilti_declared.proofs.sites.number_at.Goals as goal

pub loop-module-init : goal.loop-module-init
loop-module-init c = sym none_placed

pub overflow_add-number : goal.overflow_add-number
overflow_add-number c =
    let all = c.args.modules.now in
    let front = take c.args.site.file c.as_slice.result.now in
    let same = ap (λ l. length (placed (take c.args.site.file l))) c.as_slice.ensures in
    let there = placed_there all c.args.site c.requires.there in
    let few = placed_few all in
    let inside = room front c.loop-module.module-index c.module-item.result c.loop-module-test.true in
    let one = ap (λ (m : Module). length m.items) c.module-item.is in
    omega (arith, same, there.1, few, c.requires.few, inside, one, c.loop-module.invariant, c.len-number.ensures)

pub loop-module-preserved : goal.loop-module-preserved
loop-module-preserved c =
    let front = take c.args.site.file c.as_slice.result.now in
    let more = count_more front c.loop-module.module-index c.module-item.result c.loop-module-test.true c.module-item.is in
    omega (arith, more, c.loop-module.invariant, c.len-number.ensures)

pub overflow_add-result : goal.overflow_add-result
overflow_add-result c =
    let all = c.args.modules.now in
    let front = take c.args.site.file c.as_slice.result.now in
    let whole = ap (λ l. length (placed l)) (take_all c.loop-module.module-index front c.loop-module-test.false) in
    let same = ap (λ l. length (placed (take c.args.site.file l))) c.as_slice.ensures in
    let there = placed_there all c.args.site c.requires.there in
    let few = placed_few all in
    omega (arith, whole, same, there.1, few, c.requires.few, c.loop-module.invariant)

pub returns : goal.returns
returns c =
    let front = take c.args.site.file c.as_slice.result.now in
    let whole = ap (λ l. length (placed l)) (take_all c.loop-module.module-index front c.loop-module-test.false) in
    let same = ap (λ l. length (placed (take c.args.site.file l))) c.as_slice.ensures in
    omega (arith, whole, same, c.loop-module.invariant)
