-- The first place at which a needle stands, by what stands at each place.
use Rattle.std.proofs.Common.{◌≡◌, refl, sym, ◌∙◌, ap, ℕ, zero, suc, ◌+◌, ◌<◌, ◌≤◌, Bool, true, false, List, ◌++◌, length, drop, take, get_or, Some, None, nat_eq, arith}
use Rattle.std.specs.Prelude.{◌↔◌, IsTrue}
use Rattle.std.specs.List.{find, range_with_len, starts_with}
use Rattle.std.proofs.lemmas.Bool.{cond-true, cond-false}
use Rattle.std.proofs.lemmas.Bool.Decides.{Decides-eqb, same_from_decides}
use Rattle.std.proofs.lemmas.List.{ext_get_or, get_or-take, get_or-drop, length-take-le, length-take, length-drop}
use Rattle.std.proofs.lemmas.Slice.Eq.{bytes_eq-Decides, starts_is}
use Rattle.hilti_bytes.specs.Pieces.{StandsAt}
use Rattle.hilti_bytes_ops.specs.Finding.{stands_at, place_of, found}

not_true : (b : Bool) → ¬ (b ≡ true) → b ≡ false
not_true true never = absurd (never refl)
not_true false never = refl

-- the first number that passes a test

none_found : (p : ℕ → Bool) (n i : ℕ) → ((k : ℕ) → i ≤ k → k < i + n → p k ≡ false)
    → None ≡ find p (range_with_len i n)
none_found p zero i none = refl
none_found p (suc n) i none =
    none_found p n (i + 1) (λ k low high. none k (omega (arith, low)) (omega (arith, high)))
    ∙ sym (cond-false (p i) (Some i) (find p (range_with_len (i + 1) n)) (none i (omega arith) (omega arith)))

some_found : (p : ℕ → Bool) (gap n i at : ℕ) → at ≡ i + gap → gap < n → p at ≡ true
    → ((k : ℕ) → i ≤ k → k < at → p k ≡ false) → Some at ≡ find p (range_with_len i n)
some_found p gap zero i at is below holds before = absurd (omega (arith, below))
some_found p zero (suc n) i at is below holds before =
    let here : at ≡ i = omega (arith, is) in
    ap Some here
    ∙ sym (cond-true (p i) (Some i) (find p (range_with_len (i + 1) n)) (sym (ap p here) ∙ holds))
some_found p (suc gap) (suc n) i at is below holds before =
    some_found p gap n (i + 1) at (omega (arith, is)) (omega (arith, below)) holds
    (λ k low. before k (omega (arith, low)))
    ∙ sym (cond-false (p i) (Some i) (find p (range_with_len (i + 1) n)) (before i (omega arith) (omega (arith, is))))

-- a needle stands at a place where the test says so

passes : (bytes needle : List ℕ) (k : ℕ) → StandsAt bytes needle k
    → stands_at bytes needle k ≡ true
passes bytes needle k stands =
    let fits = stands.fits in
    let enough = length-take-le (length needle) (drop k bytes) (omega (arith, length-drop k bytes, fits)) in
    (bytes_eq-Decides needle (take (length needle) (drop k bytes))).1
    (ext_get_or 0 needle (take (length needle) (drop k bytes)) (sym enough)
    (λ i below. sym (get_or-take (length needle) (drop k bytes) i 0 below ∙ get_or-drop k bytes i 0 ∙ stands.reads i below)))

stands : (bytes needle : List ℕ) (k : ℕ) → k ≤ length bytes → stands_at bytes needle k ≡ true
    → StandsAt bytes needle k
stands bytes needle k within holds =
    let same = (bytes_eq-Decides needle (take (length needle) (drop k bytes))).0 holds in
    let as_long = ap length same in
    let taken = length-take (length needle) (drop k bytes) in
    record {
      fits = omega (arith, as_long, taken, length-drop k bytes, within);
      reads = λ i below.
          sym (get_or-drop k bytes i 0) ∙ sym (get_or-take (length needle) (drop k bytes) i 0 below)
          ∙ sym (ap (λ xs. get_or xs i 0) same);
    }

fails : (bytes needle : List ℕ) (k : ℕ) → k ≤ length bytes → ¬ (StandsAt bytes needle k)
    → stands_at bytes needle k ≡ false
fails bytes needle k within never =
    not_true (stands_at bytes needle k) (λ holds. never (stands bytes needle k within holds))

pub some_place : (bytes needle : List ℕ) (at : ℕ) → StandsAt bytes needle at
    → ((k : ℕ) → k < at → ¬ (StandsAt bytes needle k)) → found (Some at) ≡ place_of bytes needle
some_place bytes needle at here least =
    let fits = here.fits in
    ap found (some_found (stands_at bytes needle) at (length bytes + 1) 0 at (omega arith)
    (omega (arith, fits)) (passes bytes needle at here)
    (λ k _ below. fails bytes needle k (omega (arith, below, fits)) (least k below)))

pub no_place : (bytes needle : List ℕ) → ((k : ℕ) → ¬ (StandsAt bytes needle k))
    → found None ≡ place_of bytes needle
no_place bytes needle none =
    ap found (none_found (stands_at bytes needle) (length bytes + 1) 0
    (λ k _ high. fails bytes needle k (omega (arith, high)) (none k)))

-- whether bytes begin with others
pub begins_is : (bytes front : List ℕ) (r : Bool)
    → (IsTrue r ↔ ((rest : List ℕ) × (bytes ≡ front ++ rest)))
    → r ≡ starts_with nat_eq bytes front
begins_is bytes front r tells =
    let both = starts_is Decides-eqb bytes front (starts_with nat_eq bytes front) refl in
    same_from_decides r (starts_with nat_eq bytes front) tells
    (λ holds. (drop (length front) bytes, both.0 holds), λ is. both.1 is.0 is.1)
