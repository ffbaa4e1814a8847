use Rattle.std.proofs.Common.{[], arith}
use Rattle.hilti_link.specs.Shapes.{field_refusal, overlay_field_of}
use Rattle.hilti_link.specs.Views.{view_in}
use Rattle.hilti_link.proofs.Answering.{answers_given}
use Rattle.hilti_link.proofs.Taking.{holds_new, taking_more, taking_refuses, taking_accepts, made_more}
use Rattle.hilti_link.proofs.shapes.read_fields.Goals as goal

pub returns-in_err-next-clause-refusal : goal.returns-in_err-next-clause-refusal
returns-in_err-next-clause-refusal c =
    let e = c.in_err-next.field-0.0 in
    answers_given c.from_residual.result e _ c.from_residual.ensures.0 c.from_residual.ensures.1
    (taking_refuses (field_refusal (view_in c.args.tables.now c.args.scope.now)) (λ field. field.name.bytes) c.new-taken.result c.loop-field.taken c.args.fields.now c.args.fields.now c.loop-field.field-index c.field-item.result e
    c.loop-field-test.true c.field-item.is c.in_err-next.ensures.refusal c.loop-field.invariant.1 [] (holds_new c.new-taken.result c.new-taken.ensures))

pub loop-field-preserved : goal.loop-field-preserved
loop-field-preserved c =
    let items = c.args.fields.now in
    let at = c.loop-field.field-index in
    let item = c.field-item.result in (
      made_more (overlay_field_of (view_in c.args.tables.now c.args.scope.now)) [] c.loop-field.made c.push.new.self items at item c.in_ok-next.next
          c.loop-field-test.true c.field-item.is c.loop-field.invariant.0 c.in_ok-next.ensures.field c.in_ok-push.ensures.ok,
      taking_more (field_refusal (view_in c.args.tables.now c.args.scope.now)) (λ field. field.name.bytes) c.new-taken.result c.loop-field.taken c.note.new.self items items at item c.bytes.result.now 0
          c.loop-field-test.true c.field-item.is c.bytes.ensures c.in_ok-note.ensures.noted c.in_ok-next.ensures.refusal c.loop-field.invariant.1,
    )

pub returns-clause-refusal : goal.returns-clause-refusal
returns-clause-refusal c =
    taking_accepts (field_refusal (view_in c.args.tables.now c.args.scope.now)) (λ field. field.name.bytes) c.new-taken.result c.loop-field.taken c.args.fields.now c.args.fields.now c.loop-field.field-index
    (omega arith) c.loop-field.invariant.1 [] (holds_new c.new-taken.result c.new-taken.ensures)
