use Rattle.std.proofs.Common.{[], arith}
use Rattle.hilti_link.specs.declared.typed_words.Role.TheVariants as roles
use Rattle.hilti_link.specs.Shapes.{member_of}
use Rattle.hilti_link.specs.TypedWords.{word_refusal}
use Rattle.hilti_link.specs.Views.{view_in}
use Rattle.hilti_link.proofs.Answering.{answers_given}
use Rattle.hilti_link.proofs.Taking.{holds_new, taking_more, taking_refuses, taking_accepts, made_more}
use Rattle.hilti_link.proofs.shapes.read_members.Goals as goal

pub returns-in_err-member-clause-refusal : goal.returns-in_err-member-clause-refusal
returns-in_err-member-clause-refusal c =
    let e = c.in_err-member.field-0.0 in
    answers_given c.from_residual.result e _ c.from_residual.ensures.0 c.from_residual.ensures.1
    (taking_refuses (word_refusal (view_in c.args.tables.now c.args.scope.now) roles.Member) (λ field. field.name.bytes) c.new-taken.result c.loop-field.taken c.args.fields.now c.args.fields.now c.loop-field.field-index c.field-item.result e
    c.loop-field-test.true c.field-item.is c.in_err-member.ensures.refusal c.loop-field.invariant.1 [] (holds_new c.new-taken.result c.new-taken.ensures))

pub loop-field-preserved : goal.loop-field-preserved
loop-field-preserved c =
    let items = c.args.fields.now in
    let at = c.loop-field.field-index in
    let item = c.field-item.result in (
      made_more (member_of (view_in c.args.tables.now c.args.scope.now)) [] c.loop-field.members c.push.new.self items at item c.in_ok-member.member
          c.loop-field-test.true c.field-item.is c.loop-field.invariant.0 c.in_ok-member.ensures.member c.in_ok-push.ensures.ok,
      taking_more (word_refusal (view_in c.args.tables.now c.args.scope.now) roles.Member) (λ field. field.name.bytes) c.new-taken.result c.loop-field.taken c.note.new.self items items at item c.bytes.result.now 0
          c.loop-field-test.true c.field-item.is c.bytes.ensures c.in_ok-note.ensures.noted c.in_ok-member.ensures.refusal c.loop-field.invariant.1,
    )

pub returns-clause-refusal : goal.returns-clause-refusal
returns-clause-refusal c =
    taking_accepts (word_refusal (view_in c.args.tables.now c.args.scope.now) roles.Member) (λ field. field.name.bytes) c.new-taken.result c.loop-field.taken c.args.fields.now c.args.fields.now c.loop-field.field-index
    (omega arith) c.loop-field.invariant.1 [] (holds_new c.new-taken.result c.new-taken.ensures)
