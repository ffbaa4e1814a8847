-- What every effect of the body that counts down has.
use Rattle.std.specs.Prelude.{ℕ, zero, suc, [], ◌∷◌, refl}
use Rattle.std.specs.List.{All}
use Rattle.std.proofs.Common.{subst}
use Rattle.std.proofs.lemmas.List.Elements.{All-nil, All-cons}
use Rattle.hilti_base.specs.declared.names.FnId.{FnId}
use Rattle.hilti_tree.specs.declared.tree.Tree.TheVariants as variants
use Rattle.hilti_core.specs.declared.pieces.End.{End}
use Rattle.hilti_core.specs.declared.pieces.End.TheVariants.{Returned}
use Rattle.hilti_core.specs.Body.{HasSegments, sent_calls}
use Rattle.hilti_core.specs.Sending.{items_of}
use Rattle.hilti_core.specs.Countdown.{countdown, number_of, effect_of, IsNumber}

-- the call returned
abbrev HasReturned : End → Type 0
HasReturned Returned = Unit {0}
HasReturned _ = ⊥

sends_numbers : (function : FnId) (n : ℕ) →
    All IsNumber (sent_calls (items_of (countdown function n)))
sends_numbers function zero = All-nil IsNumber
sends_numbers function (suc n) =
    All-cons IsNumber (record { function = function; args = variants.Int n ∷ [] }) [] (n, refl)
    (All-nil IsNumber)

pub has_segments : HasSegments (λ thread finished call. effect_of call) IsNumber
has_segments thread finished call all sound = record {
  ends = (refl, λ e. subst HasReturned e tt);
  sends = sends_numbers call.function (number_of call.args);
}
