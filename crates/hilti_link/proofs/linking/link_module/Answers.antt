use Rattle.std.proofs.Common.{refl}
use Rattle.hilti_link.proofs.Answering.{answers_given}
use Rattle.hilti_link.proofs.ModuleItems.{items_start, items_more, items_refuse, items_end, lent_below, lent_over, lent_is, stands_so, context_so}
use Rattle.hilti_link.proofs.linking.link_module.Goals as goal

pub loop-at-init : goal.loop-at-init
loop-at-init c = λ seen context enters is. items_start seen c.args.module.now c.args.tables.now is

pub returns-in_err-link_item-clause-refusal : goal.returns-in_err-link_item-clause-refusal
returns-in_err-link_item-clause-refusal c = λ seen context enters is.
    let m = c.args.module.now in
    let at = c.loop-at.at in
    let tables = c.loop-at.tables in
    let item = c.item-item.result in
    let so = c.loop-at.invariant seen context enters is in
    let lent = c.as_slice-item-items.result.now in
    let e = c.in_err-link_item.field-0.0 in
    answers_given c.from_residual.result e _ c.from_residual.ensures.0 c.from_residual.ensures.1
    (items_refuse seen m at tables item e (lent_below lent m.items at c.as_slice-item-items.ensures c.loop-at-test.true) (lent_is lent m.items at item c.as_slice-item-items.ensures c.item-item.is) so.0 so.1
    (c.in_err-link_item.ensures.refusal so.0 (context_so seen m at tables so.0 so.1 c.args.context.now context)
    (stands_so seen m c.args.file c.args.here at tables so.0 so.1 enters _ c.bytes.ensures c.version_of-version.ensures refl refl refl) so.1.tables_are))

pub loop-at-preserved : goal.loop-at-preserved
loop-at-preserved c = λ seen context enters is.
    let m = c.args.module.now in
    let at = c.loop-at.at in
    let tables = c.loop-at.tables in
    let item = c.item-item.result in
    let so = c.loop-at.invariant seen context enters is in
    let lent = c.as_slice-item-items.result.now in
    let known = context_so seen m at tables so.0 so.1 c.args.context.now context in
    items_more seen m at tables c.link_item.new.tables item (lent_below lent m.items at c.as_slice-item-items.ensures c.loop-at-test.true) (lent_is lent m.items at item c.as_slice-item-items.ensures c.item-item.is) so.0 so.1
    (c.in_ok-link_item.ensures.refusal so.0 known (stands_so seen m c.args.file c.args.here at tables so.0 so.1 enters _ c.bytes.ensures c.version_of-version.ensures refl refl refl) so.1.tables_are)
    (c.in_ok-link_item.ensures.tables so.0 known (stands_so seen m c.args.file c.args.here at tables so.0 so.1 enters _ c.bytes.ensures c.version_of-version.ensures refl refl refl) so.1.tables_are)

pub returns-clause-tables : goal.returns-clause-tables
returns-clause-tables c = λ seen context enters is.
    let m = c.args.module.now in
    let so = c.loop-at.invariant seen context enters is in
    let over = items_end seen m c.loop-at.at c.loop-at.tables (lent_over c.as_slice-item-items.result.now m.items c.loop-at.at c.as_slice-item-items.ensures c.loop-at-test.false) so.0 so.1 in
    over.1

pub returns-clause-refusal : goal.returns-clause-refusal
returns-clause-refusal c = λ seen context enters is.
    let m = c.args.module.now in
    let so = c.loop-at.invariant seen context enters is in
    let over = items_end seen m c.loop-at.at c.loop-at.tables (lent_over c.as_slice-item-items.result.now m.items c.loop-at.at c.as_slice-item-items.ensures c.loop-at-test.false) so.0 so.1 in
    over.0
