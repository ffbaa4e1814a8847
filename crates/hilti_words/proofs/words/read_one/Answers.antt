use Rattle.std.proofs.Common.{◌∷◌, ◌++◌, ◌∙◌, suc, Err, ap, drop, subst, sym, take}
use Rattle.std.proofs.Math.Seq.{split_at}
use Rattle.std.proofs.lemmas.List.{take_all}
use Rattle.hilti_words.specs.Reading.{ArePieces, HasRead}
use Rattle.hilti_words.proofs.Finishing.{handed_on}
use Rattle.hilti_words.proofs.Refused.{behind_one_word}
use Rattle.hilti_words.proofs.words.read_one.Goals as goal

pub returns-in_err-read-clause-usage : goal.returns-in_err-read-clause-usage
returns-in_err-read-clause-usage c =
    λ usage is.
    let at = c.loop-word.word-index in
    let words = c.args.words.now in
    let split = split_at words at c.word-item.result c.loop-word-test.true
    ∙ ap (λ word. take at words ++ word ∷ drop (suc at) words) (sym c.word-item.is ∙ sym c.bytes.ensures) in
    c.in_err-read.ensures.usage (ap Err (handed_on c.from_residual.result c.in_err-read.field-0.0 c.from_residual.ensures.1 usage))
    (take at words) (drop (suc at) words) c.loop-word.invariant (subst ArePieces split (behind_one_word words is))

pub returns-in_err-command-clause-usage : goal.returns-in_err-command-clause-usage
returns-in_err-command-clause-usage c =
    λ usage is. c.in_err-command.ensures.usage
    (ap Err (handed_on c.from_residual-in_err-command.result c.in_err-command.field-0.0 c.from_residual-in_err-command.ensures.1 usage))
    c.args.words.now (subst (λ words. HasRead words c.loop-word.reader) (take_all c.loop-word.word-index c.args.words.now c.loop-word-test.false) c.loop-word.invariant) is
