use Rattle.std.proofs.Common.{length, arith}
use Rattle.hilti_link.proofs.Answering.{answers_given}
use Rattle.hilti_link.proofs.AllModules.{modules_start, modules_more, modules_refuse_named, modules_refuse_inside, modules_end, module_room, lent_below, lent_over, lent_is, context_so, enters_so, further}
use Rattle.hilti_link.proofs.linking.link_modules.Goals as goal

pub loop-file-init : goal.loop-file-init
loop-file-init c = modules_start c.args.modules.now c.new-tables.result c.new-tables.ensures

pub returns-in_err-refuse_head-clause-refusal : goal.returns-in_err-refuse_head-clause-refusal
returns-in_err-refuse_head-clause-refusal c =
    let modules = c.args.modules.now in
    let so = c.loop-file.invariant in
    let lent = c.as_slice-module-items.result.now in
    let m = c.module-item.result in
    let e = c.in_err-refuse_head.field-0.0 in
    answers_given c.from_residual.result e _ c.from_residual.ensures.0 c.from_residual.ensures.1
    (modules_refuse_named modules c.loop-file.file c.loop-file.here c.loop-file.tables m e (lent_below lent modules c.loop-file.file c.as_slice-module-items.ensures c.loop-file-test.true) (lent_is lent modules c.loop-file.file m c.as_slice-module-items.ensures c.module-item.is) so.0 so.1
    (c.in_err-refuse_head.ensures so.0 (context_so modules c.loop-file.file c.loop-file.here c.loop-file.tables so.0 so.1 c.args.context.now c.requires.context) so.1.file_is))

pub link_module-requires : goal.link_module-requires
link_module-requires c =
    let modules = c.args.modules.now in
    let so = c.loop-file.invariant in
    let lent = c.as_slice-module-items.result.now in
    let m = c.module-item.result in
    let room = module_room modules c.loop-file.file c.loop-file.here c.loop-file.tables m (lent_below lent modules c.loop-file.file c.as_slice-module-items.ensures c.loop-file-test.true) (lent_is lent modules c.loop-file.file m c.as_slice-module-items.ensures c.module-item.is) so.0 so.1 in
    let few = c.requires.room in
    omega (arith, room, few)

pub returns-in_err-link_module-clause-refusal : goal.returns-in_err-link_module-clause-refusal
returns-in_err-link_module-clause-refusal c =
    let modules = c.args.modules.now in
    let so = c.loop-file.invariant in
    let lent = c.as_slice-module-items.result.now in
    let m = c.module-item.result in
    let e = c.in_err-link_module.field-0.0 in
    let known = context_so modules c.loop-file.file c.loop-file.here c.loop-file.tables so.0 so.1 c.args.context.now c.requires.context in
    answers_given c.from_residual-in_err-link_module.result e _ c.from_residual-in_err-link_module.ensures.0 c.from_residual-in_err-link_module.ensures.1
    (modules_refuse_inside modules c.loop-file.file c.loop-file.here c.loop-file.tables m e (lent_below lent modules c.loop-file.file c.as_slice-module-items.ensures c.loop-file-test.true) (lent_is lent modules c.loop-file.file m c.as_slice-module-items.ensures c.module-item.is) so.0 so.1
    (c.in_ok-refuse_head.ensures so.0 known so.1.file_is)
    (c.in_err-link_module.ensures.refusal so.0 known (enters_so modules c.loop-file.file c.loop-file.here c.loop-file.tables so.0 so.1) so.1.tables_are))

pub overflow_add-here : goal.overflow_add-here
overflow_add-here c =
    let modules = c.args.modules.now in
    let so = c.loop-file.invariant in
    let lent = c.as_slice-module-items.result.now in
    let m = c.module-item.result in
    let room = module_room modules c.loop-file.file c.loop-file.here c.loop-file.tables m (lent_below lent modules c.loop-file.file c.as_slice-module-items.ensures c.loop-file-test.true) (lent_is lent modules c.loop-file.file m c.as_slice-module-items.ensures c.module-item.is) so.0 so.1 in
    let few = c.requires.room in
    let counted = c.len-here.ensures in
    omega (arith, room, few, counted)

pub loop-file-preserved : goal.loop-file-preserved
loop-file-preserved c =
    let modules = c.args.modules.now in
    let so = c.loop-file.invariant in
    let lent = c.as_slice-module-items.result.now in
    let m = c.module-item.result in
    let known = context_so modules c.loop-file.file c.loop-file.here c.loop-file.tables so.0 so.1 c.args.context.now c.requires.context in
    let enters = enters_so modules c.loop-file.file c.loop-file.here c.loop-file.tables so.0 so.1 in
    further modules c.loop-file.file c.loop-file.here (length m.items) c.len-here.result c.link_module.new.tables c.len-here.ensures
    (modules_more modules c.loop-file.file c.loop-file.here c.loop-file.tables c.link_module.new.tables m (lent_below lent modules c.loop-file.file c.as_slice-module-items.ensures c.loop-file-test.true) (lent_is lent modules c.loop-file.file m c.as_slice-module-items.ensures c.module-item.is) so.0 so.1
    (c.in_ok-refuse_head.ensures so.0 known so.1.file_is)
    (c.in_ok-link_module.ensures.refusal so.0 known enters so.1.tables_are)
    (c.in_ok-link_module.ensures.tables so.0 known enters so.1.tables_are))

pub returns-clause-tables : goal.returns-clause-tables
returns-clause-tables c =
    let modules = c.args.modules.now in
    let so = c.loop-file.invariant in
    let over = modules_end modules c.loop-file.file c.loop-file.here c.loop-file.tables (lent_over c.as_slice-module-items.result.now modules c.loop-file.file c.as_slice-module-items.ensures c.loop-file-test.false) so.0 so.1 in
    over.1

pub returns-clause-refusal : goal.returns-clause-refusal
returns-clause-refusal c =
    let modules = c.args.modules.now in
    let so = c.loop-file.invariant in
    let over = modules_end modules c.loop-file.file c.loop-file.here c.loop-file.tables (lent_over c.as_slice-module-items.result.now modules c.loop-file.file c.as_slice-module-items.ensures c.loop-file-test.false) so.0 so.1 in
    over.0
