-- Going up from an exception to its parents.
use Rattle.std.proofs.Common.{◌≡◌, ◌≢◌, ◌↔◌, ℕ, zero, suc, ◌<◌, List, refl, sym, ap, ◌∙◌, length, get_or, Option, Some, None, IfSome}
use Rattle.std.proofs.lemmas.Option.{slice_get-get_or}
use Rattle.std.specs.Option.{option_and_then}
use Rattle.hilti_parts.specs.declared.parts.Exception.{Exception}
use Rattle.hilti_parts.specs.declared.parts.Parts.{Parts}
use Rattle.hilti_typing.specs.Exceptions.{parent_of, above, IsBelow, ExceptionTree}
use Rattle.hilti_program.specs.Programs.{IsExceptionOf}

same : (m n : ℕ) → Some m ≡ Some n → m ≡ n
same m n e = cc

none : (n : ℕ) → None ≡ Some n → ⊥
none n e = cc

pub here : (xs : List Exception) (e other : ℕ) → e ≡ other → IsBelow xs e other
unfolding above
here xs e other is = (0, ap (λ n. Some n) is)

pub stops : (xs : List Exception) (e other : ℕ) → parent_of xs e ≡ None → e ≢ other → IsBelow xs e other → ⊥
unfolding above
stops xs e other is differs (zero, leads) = differs (same e other leads)
stops xs e other is differs (suc steps, leads) =
    none other (ap (λ found. option_and_then (λ (p : ℕ). above xs steps p) found) (sym is) ∙ leads)

pub goes_on : (xs : List Exception) (e p other : ℕ) → parent_of xs e ≡ Some p → e ≢ other → IsBelow xs e other ↔ IsBelow xs p other
unfolding above
goes_on xs e p other is differs = (down, up)
  where
    down : IsBelow xs e other → IsBelow xs p other
    down (zero, leads) = absurd (differs (same e other leads))
    down (suc steps, leads) = (steps, ap (λ found. option_and_then (λ (q : ℕ). above xs steps q) found) (sym is) ∙ leads)

    up : IsBelow xs p other → IsBelow xs e other
    up (steps, leads) = (suc steps, ap (λ found. option_and_then (λ (q : ℕ). above xs steps q) found) is ∙ leads)

-- the parent of the exception at a place
pub parent_at : (xs : List Exception) (at : ℕ) (d : Exception) → at < length xs → parent_of xs at ≡ (get_or xs at d).parent
parent_at xs at d below = ap (λ found. option_and_then (λ (x : Exception). x.parent) found) (slice_get-get_or xs at d below)

number_before : (parent : Option ℕ) (at : ℕ) → ((p : ℕ) → parent ≡ Some p → p < at) → IfSome parent (λ p. p < at)
number_before None at before = tt
number_before (Some p) at before = before p refl

-- the parent of an exception stands before it
parent_before : (xs : List Exception) (at : ℕ) (x : Exception) → ExceptionTree xs → at < length xs → x ≡ get_or xs at x → IfSome x.parent (λ p. p < at)
parent_before xs at x tree below is =
    number_before x.parent at (λ p e. tree.parent_before at p (parent_at xs at x below ∙ (ap (λ (y : Exception). y.parent) (sym is) ∙ e)))

pub exception_of : (parts : Parts) (xs : List Exception) (n : ℕ) (x : Exception) → ExceptionTree parts.exceptions → xs ≡ parts.exceptions →
    n < length parts.exceptions → x ≡ get_or xs n x → IsExceptionOf parts n x
exception_of parts xs n x tree same below is =
    let there : x ≡ get_or parts.exceptions n x = is ∙ ap (λ (ys : List Exception). get_or ys n x) same in
    record { stands = slice_get-get_or parts.exceptions n x below ∙ ap (λ y. Some y) (sym there); parent = parent_before parts.exceptions n x tree below there }
