use Rattle.std.proofs.Common.{◌∙◌, sym, length}
use Rattle.hilti_table.specs.Rows.{kinds}
use Rattle.hilti_operands.proofs.Lining.{first_next, first_found, first_ends, first_done}
use Rattle.hilti_operands.proofs.widths.first_variable.Goals as goal

pub returns-in_default : goal.returns-in_default
returns-in_default c = sym (first_ends _ _ _ (kinds c.args.takes (length c.args.items.now)) c.args.items.now c.loop-at.at c.in_default.ensures c.loop-at.invariant)

pub returns : goal.returns
returns c = sym (first_done _ _ _ (kinds c.args.takes (length c.args.items.now)) c.args.items.now c.loop-at.at c.loop-at-test.false c.loop-at.invariant)

pub returns-in-Ok-Some : goal.returns-in-Ok-Some
returns-in-Ok-Some c =
    sym (first_found _ _ _ (kinds c.args.takes (length c.args.items.now)) c.args.items.now c.loop-at.at _ _ _ c.in-Some.ensures c.loop-at-test.true c.index-items-at.is (sym c.in-Ok-Some.field-0-is ∙ c.in-Ok-Some.ensures) c.loop-at.invariant)

pub loop-at-preserved : goal.loop-at-preserved
loop-at-preserved c =
    first_next _ _ _ (kinds c.args.takes (length c.args.items.now)) c.args.items.now c.loop-at.at _ _ c.in-Some.ensures c.loop-at-test.true c.index-items-at.is (sym c.in-Ok-None.field-0-is ∙ c.in-Ok-None.ensures) c.loop-at.invariant
