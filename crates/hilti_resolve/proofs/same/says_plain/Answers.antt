use Rattle.std.proofs.Common.{◌≡◌, ◌∙◌, sym, ap, rules}
use Rattle.hilti_module.specs.declared.types.PlainType.TheVariants.{Bytes}
use Rattle.hilti_resolve.specs.Written.{Plain, inner_writes, parametric_writes, reference_to}
use Rattle.hilti_resolve.proofs.Says.{reference_says}
use Rattle.hilti_resolve.proofs.SameParts.{plain_reference}
use Rattle.hilti_resolve.proofs.same.says_plain.Goals as goal

pub returns-then-eq : goal.returns-then-eq
returns-then-eq c = λ mean.
    let said = ap (parametric_writes mean) c.in-Ref.is ∙ reference_says mean c.in-Ref.place c.in-Ref.to in
    let told = c.says_bytes.ensures mean in
    let is : c.args.plain ≡ Bytes = search rules in
    (λ yes. said ∙ ap reference_to (told.0 yes) ∙ ap Plain (sym is), λ same. told.1 (plain_reference (inner_writes mean c.in-Ref.to) c.args.plain (sym said ∙ same)))
