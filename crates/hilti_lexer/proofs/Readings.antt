-- Tokens that are read one after another.
use Rattle.std.proofs.Common.{◌≡◌, ℕ, List, [], ◌∷◌, ◌++◌, refl, ap, subst}
use Rattle.std.specs.Prelude.{Result, Err, Option, Some, IfSome}
use Rattle.hilti_base.specs.declared.names.Place.{Place}
use Rattle.hilti_base.specs.declared.refusal.Refusal.{Refusal}
use Rattle.hilti_lexer.specs.declared.token.Token.{Token}
use Rattle.hilti_lexer.specs.Readings.{AreRead, IsNext}

-- one more token behind those that are read
pub one_more : (at : Place) (text : List ℕ) (tokens : List Token) (now : Place) (rest : List ℕ) (token : Token) (behind : Place) (left : List ℕ)
    → AreRead at text tokens now rest → IsNext now rest token behind left → AreRead at text (tokens ++ token ∷ []) behind left
one_more at text [] now rest token behind left read next =
    (behind, left, subst (λ (p : Place). IsNext p text token behind left) read.0 (subst (λ (l : List ℕ). IsNext now l token behind left) read.1 next), (refl, refl))
one_more at text (first ∷ tokens) now rest token behind left read next =
    (read.0, read.1, read.2, one_more read.0 read.1 tokens now rest token behind left read.3 next)

-- a refusal that is handed on
pub handed_on : {T U : Type 0} (answer : Result T Refusal) (last first refusal : Refusal) → answer ≡ Err last → last ≡ first → answer ≡ Err refusal
    → (let before : Result U Refusal = Err first in before ≡ Err refusal)
handed_on answer last first refusal e f g = let same : first ≡ refusal = cc in ap (λ (d : Refusal). Err d) same

pub at_some : {T : Type 0} (answer : Option T) (value : T) (P : T → Type 0) → answer ≡ Some value → IfSome answer P → P value
at_some answer value P e h = rw e at h
