use Rattle.std.proofs.Common.{sym, ◌∙◌}
use Rattle.hilti_code.specs.Runnable.{has_text}
use Rattle.hilti_rows.specs.declared.row.Printed.{Printed}
use Rattle.hilti_check.proofs.Scanning.{fails_at, passes_more, passes_end}
use Rattle.hilti_check.proofs.built.have_texts.Goals as goal

pub returns-then-not-has_text : goal.returns-then-not-has_text
returns-then-not-has_text c =
    fails_at (λ (item : Printed). has_text item.kind) c.args.items.now c.loop-item.item-index c.item-item.result c.loop-item-test.true c.item-item.is
    (sym c.has_text.ensures ∙ c.if-not-has_text.true)

pub loop-item-preserved : goal.loop-item-preserved
loop-item-preserved c =
    passes_more (λ (item : Printed). has_text item.kind) c.args.items.now c.loop-item.item-index c.item-item.result c.loop-item-test.true c.item-item.is
    (sym c.has_text.ensures ∙ c.if-not-has_text.false) c.loop-item.invariant

pub returns : goal.returns
returns c = passes_end (λ (item : Printed). has_text item.kind) c.args.items.now c.loop-item.item-index c.loop-item-test.false c.loop-item.invariant
