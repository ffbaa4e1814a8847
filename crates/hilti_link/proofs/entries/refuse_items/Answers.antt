use Rattle.hilti_resolve.proofs.Firsts.{first_told, first_here, first_more, first_at_end}
use Rattle.hilti_link.specs.Entries.{entry_refusal}
use Rattle.hilti_link.proofs.Answering.{answers_stop}
use Rattle.hilti_link.proofs.entries.refuse_items.Goals as goal

pub returns-in_err-refuse_entry : goal.returns-in_err-refuse_entry
returns-in_err-refuse_entry c =
    let all = first_told entry_refusal c.args.items.now in
    answers_stop c.from_residual.result c.in_err-refuse_entry.field-0.0 (entry_refusal c.item-item.result) all c.from_residual.ensures.0 c.from_residual.ensures.1 c.in_err-refuse_entry.ensures
    (λ refusal told. first_here entry_refusal all c.args.items.now c.loop-item.item-index c.item-item.result refusal c.loop-item-test.true c.item-item.is c.loop-item.invariant told)

pub loop-item-preserved : goal.loop-item-preserved
loop-item-preserved c =
    first_more entry_refusal (first_told entry_refusal c.args.items.now) c.args.items.now c.loop-item.item-index c.item-item.result c.loop-item-test.true c.item-item.is c.loop-item.invariant c.in_ok-refuse_entry.ensures

pub returns : goal.returns
returns c =
    first_at_end entry_refusal (first_told entry_refusal c.args.items.now) c.args.items.now c.loop-item.item-index c.loop-item-test.false c.loop-item.invariant
