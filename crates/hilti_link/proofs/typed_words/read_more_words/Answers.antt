use Rattle.std.proofs.Common.{arith}
use Rattle.hilti_link.specs.Seeing.{type_at}
use Rattle.hilti_link.specs.TypedWords.{word_refusal}
use Rattle.hilti_link.specs.Views.{view_in}
use Rattle.hilti_link.proofs.Answering.{answers_given}
use Rattle.hilti_link.proofs.Taking.{taking_more, taking_refuses, taking_accepts, taking_holds, made_more}
use Rattle.hilti_link.proofs.typed_words.read_more_words.Goals as goal

pub returns-in_err-kind-clause-refusal : goal.returns-in_err-kind-clause-refusal
returns-in_err-kind-clause-refusal c = λ before holds.
    let judge = word_refusal (view_in c.args.tables.now c.args.scope.now) c.args.role in
    let e = c.in_err-kind.field-0.0 in
    answers_given c.from_residual.result e _ c.from_residual.ensures.0 c.from_residual.ensures.1
    (taking_refuses judge (λ word. word.name.bytes) c.args.taken.now c.loop-word.taken c.args.words.now c.args.words.now c.loop-word.word-index c.word-item.result e
    c.loop-word-test.true c.word-item.is c.in_err-kind.ensures.refusal c.loop-word.invariant.1 before holds)

pub loop-word-preserved : goal.loop-word-preserved
loop-word-preserved c =
    let view = view_in c.args.tables.now c.args.scope.now in
    let words = c.args.words.now in
    let at = c.loop-word.word-index in
    let word = c.word-item.result in (
      made_more (λ word. type_at view word.kind) c.args.kinds.now c.loop-word.kinds c.push.new.self words at word c.in_ok-kind.kind
          c.loop-word-test.true c.word-item.is c.loop-word.invariant.0 c.in_ok-kind.ensures.kind c.in_ok-push.ensures.ok,
      taking_more (word_refusal view c.args.role) (λ word. word.name.bytes) c.args.taken.now c.loop-word.taken c.note.new.self words words at word c.bytes.result.now 0
          c.loop-word-test.true c.word-item.is c.bytes.ensures c.in_ok-note.ensures.noted c.in_ok-kind.ensures.refusal c.loop-word.invariant.1,
    )

pub returns-clause-taken : goal.returns-clause-taken
returns-clause-taken c =
    taking_holds (word_refusal (view_in c.args.tables.now c.args.scope.now) c.args.role) (λ word. word.name.bytes) c.args.taken.now c.loop-word.taken c.args.words.now c.args.words.now c.loop-word.word-index
    (omega arith) c.loop-word.invariant.1

pub returns-clause-refusal : goal.returns-clause-refusal
returns-clause-refusal c =
    taking_accepts (word_refusal (view_in c.args.tables.now c.args.scope.now) c.args.role) (λ word. word.name.bytes) c.args.taken.now c.loop-word.taken c.args.words.now c.args.words.now c.loop-word.word-index
    (omega arith) c.loop-word.invariant.1
