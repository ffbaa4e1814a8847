use Rattle.std.proofs.Common.{◌∙◌, sym, refl}
use Rattle.hilti_table.specs.Mnemonics.{named}
use Rattle.hilti_table.proofs.Finding.{by_spellings, reached, passed, none_left, written}
use Rattle.hilti_table.proofs.mnemonics.op_of.Goals as goal

pub loop-word-init : goal.loop-word-init
unfolding named by_spellings
loop-word-init c = refl

pub returns-then-eq : goal.returns-then-eq
returns-then-eq c =
    let found = sym (c.loop-word.invariant ∙ reached _ c.loop-word.word-index c.args.mnemonic.now _ c.loop-word-test.true (sym c.eq.ensures ∙ c.if-eq.true)) in
    record { value = found; written = written _ c.args.mnemonic.now found }

pub loop-word-preserved : goal.loop-word-preserved
loop-word-preserved c =
    c.loop-word.invariant ∙ passed _ c.loop-word.word-index c.args.mnemonic.now _ c.loop-word-test.true (sym c.eq.ensures ∙ c.if-eq.false)

pub returns : goal.returns
returns c =
    let found = sym (c.loop-word.invariant ∙ none_left _ c.loop-word.word-index c.args.mnemonic.now c.loop-word-test.false) in
    record { value = found; written = written _ c.args.mnemonic.now found }
