use Rattle.std.proofs.Common.{◌∙◌, sym, refl}
use Rattle.hilti_kinds.proofs.WordTable.{found, passed}
use Rattle.hilti_kinds.proofs.keywords.word_kind.Goals as goal

pub loop-keyword-init : goal.loop-keyword-init
loop-keyword-init c = refl

pub returns-then-eq : goal.returns-then-eq
returns-then-eq c = sym (c.loop-keyword.invariant ∙ found _ c.loop-keyword.keyword-index c.args.bytes.now _ c.loop-keyword-test.true (sym c.eq.ensures ∙ c.if-eq.true))

pub loop-keyword-preserved : goal.loop-keyword-preserved
loop-keyword-preserved c = c.loop-keyword.invariant ∙ passed _ c.loop-keyword.keyword-index c.args.bytes.now _ c.loop-keyword-test.true (sym c.eq.ensures ∙ c.if-eq.false)
