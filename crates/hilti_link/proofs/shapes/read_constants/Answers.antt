use Rattle.std.proofs.Common.{[], arith}
use Rattle.hilti_link.specs.Shapes.{constant_refusal}
use Rattle.hilti_link.proofs.Answering.{answers_given}
use Rattle.hilti_link.proofs.Taking.{holds_new, taking_more, taking_refuses, taking_accepts, made_more}
use Rattle.hilti_link.proofs.shapes.read_constants.Goals as goal

pub returns-in_err-refuse_taken-clause-refusal : goal.returns-in_err-refuse_taken-clause-refusal
returns-in_err-refuse_taken-clause-refusal c =
    let e = c.in_err-refuse_taken.field-0.0 in
    answers_given c.from_residual.result e _ c.from_residual.ensures.0 c.from_residual.ensures.1
    (taking_refuses constant_refusal (λ word. word.bytes) c.new-taken.result c.loop-word.taken c.args.words.now c.args.words.now c.loop-word.word-index c.word-item.result e
    c.loop-word-test.true c.word-item.is c.in_err-refuse_taken.ensures c.loop-word.invariant.1 [] (holds_new c.new-taken.result c.new-taken.ensures))

pub loop-word-preserved : goal.loop-word-preserved
loop-word-preserved c =
    let items = c.args.words.now in
    let at = c.loop-word.word-index in
    let item = c.word-item.result in (
      made_more (λ word. word.bytes) [] c.loop-word.names c.push.new.self items at item c.in_ok-name.name
          c.loop-word-test.true c.word-item.is c.loop-word.invariant.0 c.in_ok-name.ensures c.in_ok-push.ensures.ok,
      taking_more constant_refusal (λ word. word.bytes) c.new-taken.result c.loop-word.taken c.note.new.self items items at item c.bytes.result.now 0
          c.loop-word-test.true c.word-item.is c.bytes.ensures c.in_ok-note.ensures.noted c.in_ok-refuse_taken.ensures c.loop-word.invariant.1,
    )

pub returns-clause-refusal : goal.returns-clause-refusal
returns-clause-refusal c =
    taking_accepts constant_refusal (λ word. word.bytes) c.new-taken.result c.loop-word.taken c.args.words.now c.args.words.now c.loop-word.word-index
    (omega arith) c.loop-word.invariant.1 [] (holds_new c.new-taken.result c.new-taken.ensures)
