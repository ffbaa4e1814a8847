use Rattle.std.proofs.Common.{[]}
use Rattle.hilti_link.proofs.Answering.{answers_given}
use Rattle.hilti_link.proofs.Taking.{holds_new}
use Rattle.hilti_link.proofs.typed_words.read_words.Goals as goal

pub returns-in_err-read_more_words-clause-refusal : goal.returns-in_err-read_more_words-clause-refusal
returns-in_err-read_more_words-clause-refusal c =
    let e = c.in_err-read_more_words.field-0.0 in
    answers_given c.from_residual.result e _ c.from_residual.ensures.0 c.from_residual.ensures.1
    (c.in_err-read_more_words.ensures.refusal [] (holds_new c.new-taken.result c.new-taken.ensures))

pub returns-clause-refusal : goal.returns-clause-refusal
returns-clause-refusal c = c.in_ok-read_more_words.ensures.refusal [] (holds_new c.new-taken.result c.new-taken.ensures)
