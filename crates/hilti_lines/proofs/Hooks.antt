-- A known hook has no result.
use Rattle.std.proofs.Common.{◌≡◌, ◌∙◌, ℕ, List, map, sym, refl, ap, Option, Some, None}
use Rattle.std.specs.Prelude.{slice_get}
use Rattle.std.specs.Option.{option_map}
use Rattle.std.proofs.lemmas.Option.{slice_get-map}
use Rattle.hilti_link.specs.declared.tables.LinkedHook.{LinkedHook}
use Rattle.hilti_typing.specs.Context.{Signature}
use Rattle.hilti_typing.specs.Fits.{calling, called_result}
use Rattle.hilti_operands.specs.Seen.{BodySeen, known_of, hook_signature}
use Rattle.hilti_operands.specs.declared.known.Known.{Known as Kept}
use Rattle.hilti_operands.specs.declared.known.Known.TheVariants as kept

no_result : (h : Option LinkedHook) → None ≡ called_result (calling (option_map hook_signature h))
no_result None = refl
no_result (Some hook) = refl

pub no_hook_result : (body : BodySeen) (known : Kept) (n : ℕ) → known ≡ kept.Hook n → None ≡ called_result (known_of body known)
no_hook_result body known n is =
    no_result (slice_get body.tables.hooks n)
    ∙ (ap (λ (s : Option Signature). called_result (calling s)) (sym (slice_get-map hook_signature body.tables.hooks n))
    ∙ sym (ap (λ (k : Kept). called_result (known_of body k)) is))
