use Rattle.std.proofs.Common.{◌∙◌, sym, ap, Option}
use Rattle.hilti_module.specs.declared.types.TypeText.{TypeText}
use Rattle.hilti_link.specs.Items.{result_refusal}
use Rattle.hilti_link.specs.Views.{view_in}
use Rattle.hilti_link.proofs.Answering.{refused_as, handed_on}
use Rattle.hilti_link.proofs.AnsweringItems.{type_refuses}
use Rattle.hilti_link.proofs.items.read_result.Goals as goal

pub returns-in_err-read_type-in-Some-clause-refusal : goal.returns-in_err-read_type-in-Some-clause-refusal
returns-in_err-read_type-in-Some-clause-refusal c =
    handed_on c.from_residual.result c.in_err-read_type-in-Some.field-0.0 _ c.from_residual.ensures.1
    (refused_as c.in_err-read_type-in-Some.field-0.0 _ _ (ap (λ (returns : Option TypeText). result_refusal (view_in c.args.tables.now c.args.scope.now) returns) (sym c.in-Some.is))
    (type_refuses c.args.tables.now c.args.scope.now c.in-Some.text c.in_err-read_type-in-Some.field-0.0 c.in_err-read_type-in-Some.ensures.refusal))

pub returns-in_ok-read_type-in-Some-clause-refusal : goal.returns-in_ok-read_type-in-Some-clause-refusal
returns-in_ok-read_type-in-Some-clause-refusal c =
    ap (λ (returns : Option TypeText). result_refusal (view_in c.args.tables.now c.args.scope.now) returns) c.in-Some.is
    ∙ c.in_ok-read_type-in-Some.ensures.accepted
