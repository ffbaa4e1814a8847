use Rattle.std.proofs.Common.{◌∙◌, []}
use Rattle.hilti_link.specs.declared.typed_words.Role.TheVariants.{Slot}
use Rattle.hilti_link.specs.InTurn.{first_in_turn, behind_all}
use Rattle.hilti_link.specs.TypedWords.{word_refusal, taking_word}
use Rattle.hilti_link.specs.Views.{view_in}
use Rattle.hilti_link.proofs.Turns.{first-append}
use Rattle.hilti_link.proofs.Answering.{refused_same, answers_or, answers_behind, answers_neither, answers_given}
use Rattle.hilti_link.proofs.Taking.{holds_new}
use Rattle.hilti_link.proofs.typed_words.read_slots.Goals as goal

pub returns-in_err-read_more_words-clause-refusal : goal.returns-in_err-read_more_words-clause-refusal
returns-in_err-read_more_words-clause-refusal c =
    let judge = word_refusal (view_in c.args.tables.now c.args.scope.now) Slot in
    let e = c.in_err-read_more_words.field-0.0 in
    answers_given c.from_residual.result e _ c.from_residual.ensures.0 c.from_residual.ensures.1
    (refused_same e _ _ (first-append judge taking_word [] c.args.parameters.now c.args.locals.now)
    (answers_or e _ (first_in_turn judge taking_word (behind_all taking_word [] c.args.parameters.now) c.args.locals.now)
    (c.in_err-read_more_words.ensures.refusal [] (holds_new c.new-taken.result c.new-taken.ensures))))

pub returns-in_err-read_more_words-2-clause-refusal : goal.returns-in_err-read_more_words-2-clause-refusal
returns-in_err-read_more_words-2-clause-refusal c =
    let judge = word_refusal (view_in c.args.tables.now c.args.scope.now) Slot in
    let none = holds_new c.new-taken.result c.new-taken.ensures in
    let e = c.in_err-read_more_words-2.field-0.0 in
    answers_given c.from_residual-in_err-read_more_words-2.result e _ c.from_residual-in_err-read_more_words-2.ensures.0 c.from_residual-in_err-read_more_words-2.ensures.1
    (refused_same e _ _ (first-append judge taking_word [] c.args.parameters.now c.args.locals.now)
    (answers_behind e _ _ (c.in_ok-read_more_words.ensures.refusal [] none)
    (c.in_err-read_more_words-2.ensures.refusal (behind_all taking_word [] c.args.parameters.now) (c.in_ok-read_more_words.ensures.taken [] none))))

pub returns-clause-refusal : goal.returns-clause-refusal
returns-clause-refusal c =
    let none = holds_new c.new-taken.result c.new-taken.ensures in
    first-append (word_refusal (view_in c.args.tables.now c.args.scope.now) Slot) taking_word [] c.args.parameters.now c.args.locals.now
    ∙ answers_neither _ _ (c.in_ok-read_more_words.ensures.refusal [] none)
    (c.in_ok-read_more_words-2.ensures.refusal (behind_all taking_word [] c.args.parameters.now) (c.in_ok-read_more_words.ensures.taken [] none))
