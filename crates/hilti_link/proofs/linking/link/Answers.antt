use Rattle.std.proofs.Common.{arith}
use Rattle.hilti_link.specs.Refusals.{first_refusal}
use Rattle.hilti_link.proofs.Answering.{answers_given}
use Rattle.hilti_link.proofs.Joined.{refused_inside, refused_entry, accepted, told_by}
use Rattle.hilti_link.proofs.Room.{length_placed_from, modules_bounded}
use Rattle.hilti_link.proofs.linking.link.Goals as goal

pub link_all-requires : goal.link_all-requires
link_all-requires c =
    let few = c.requires.few in
    omega (arith, length_placed_from 0 c.args.modules)

pub returns-in_err-declarations-clause-refusal : goal.returns-in_err-declarations-clause-refusal
returns-in_err-declarations-clause-refusal c =
    let e = c.in_err-declarations.field-0.0 in
    told_by c.from_residual.result (first_refusal c.args.modules)
    (answers_given c.from_residual.result e _ c.from_residual.ensures.0 c.from_residual.ensures.1 (refused_inside e c.args.modules c.in_err-declarations.ensures.refusal))

pub returns-in_err-refuse_entries-clause-refusal : goal.returns-in_err-refuse_entries-clause-refusal
returns-in_err-refuse_entries-clause-refusal c =
    let e = c.in_err-refuse_entries.field-0.0 in
    told_by c.from_residual-in_err-refuse_entries.result (first_refusal c.args.modules)
    (answers_given c.from_residual-in_err-refuse_entries.result e _ c.from_residual-in_err-refuse_entries.ensures.0 c.from_residual-in_err-refuse_entries.ensures.1
    (refused_entry e c.args.modules c.in_ok-declarations.ensures.refusal c.in_err-refuse_entries.ensures))

pub invariant_of-result : goal.invariant_of-result
invariant_of-result c =
    let few = c.requires.few in
    record {
      accepted = accepted c.args.modules c.in_ok-declarations.ensures.refusal c.in_ok-refuse_entries.ensures;
      declares = c.in_ok-declarations.ensures.declarations;
      tabled = c.in_ok-declarations.ensures.tables;
      bounded = omega (arith, modules_bounded c.args.modules);
    }

pub returns-clause-accepted : goal.returns-clause-accepted
returns-clause-accepted c = accepted c.args.modules c.in_ok-declarations.ensures.refusal c.in_ok-refuse_entries.ensures
