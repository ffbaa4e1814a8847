-- The numbers of the threads that ran, with one thread more.
use Rattle.std.proofs.Common.{◌≡◌, ℕ, ◌+◌, ◌-◌, ◌<◌, ◌≤◌, ◌⊎◌, inl, inr, ◌↔◌, Bool, true, false, List, [], ◌∷◌, ◌++◌, length, get_or, insert, Result, Err, MatchResult, Contains, refl, ap, sym, ◌∙◌, subst, arith, eqb}
use Rattle.std.specs.Ordering.{nat_cmp}
use Rattle.std.specs.List.Sorted.{IsBinarySearchResult}
use Rattle.std.specs.List.Sorted.{IsStrictlyIncreasing}
use Rattle.std.proofs.lemmas.Bool.{eqb-true, eq-eqb, cases_order}
use Rattle.std.proofs.lemmas.List.Edits.{length-insert, get_or-insert_below, get_or-insert_at, get_or-insert_above}
use Rattle.std.proofs.lemmas.List.Elements.{All-nil, All-contains, Contains-append_left, Contains-append_right, Contains-append_cases, Contains-push}
use Rattle.std.proofs.lemmas.List.Sorted.{IsPermutation-insert, IsPermutation-sym, Contains-permutation, searched}
use Rattle.std.proofs.lemmas.List.{get_or_default}
use Rattle.std.proofs.lemmas.List.Kept.{AllPairs-from_increasing}
use Rattle.hilti_core.specs.Machine.{Start}
use Rattle.hilti_pool.specs.Threads.{calls_of}
use Rattle.hilti_pool.specs.Roll.{IsRoll, Enrols}
use Rattle.hilti_pool.proofs.Seats.{one_if, calls_of-push, only_one}

-- a number that is put in its place keeps the numbers rising
rises : (xs : List ℕ) (i y : ℕ) → IsStrictlyIncreasing xs → i ≤ length xs → ((k : ℕ) → k < i → get_or xs k 0 < y) → ((k : ℕ) → i ≤ k → k < length xs → y < get_or xs k 0) → IsStrictlyIncreasing (insert xs i y)
rises xs i y up within below above k inside = elim (cases_order (k + 1) i) [
  | inl e ↦
      let a = get_or-insert_below xs i y 0 k (omega (arith, e)) within in
      let b : get_or (insert xs i y) (k + 1) 0 ≡ y = ap (λ n. get_or (insert xs i y) n 0) e ∙ get_or-insert_at xs i y 0 within in
      omega (arith, a, b, below k (omega (arith, e)))
  | inr (inl low) ↦
      let a = get_or-insert_below xs i y 0 k (omega (arith, low)) within in
      let b = get_or-insert_below xs i y 0 (k + 1) low within in
      omega (arith, a, b, up k (omega (arith, low, within)))
  | inr (inr high) ↦
      let long : k < length xs = omega (arith, inside, length-insert xs i y within) in
      let b = get_or-insert_above xs i y 0 k (omega (arith, high)) within in
      elim (cases_order i k) [
        | inl e ↦
            let a : get_or (insert xs i y) k 0 ≡ y = ap (λ n. get_or (insert xs i y) n 0) (sym e) ∙ get_or-insert_at xs i y 0 within in
            omega (arith, a, b, above k (omega (arith, e)) long)
        | inr (inl less) ↦
            let back : k - 1 + 1 ≡ k = omega (arith, less) in
            let a : get_or (insert xs i y) k 0 ≡ get_or xs (k - 1) 0 = ap (λ n. get_or (insert xs i y) n 0) (sym back) ∙ get_or-insert_above xs i y 0 (k - 1) (omega (arith, less)) within in
            let c : get_or xs (k - 1) 0 < get_or xs k 0 = subst (λ n. get_or xs (k - 1) 0 < get_or xs n 0) back (up (k - 1) (omega (arith, less, long))) in
            omega (arith, a, b, c)
        | inr (inr more) ↦ absurd (omega (arith, high, more))
      ]
]

has_both : (xs : List ℕ) (i n r : ℕ) → Contains (insert xs i n) r ↔ (Contains xs r ⊎ (r ≡ n))
has_both xs i n r = (
  λ here. elim (Contains-append_cases (n ∷ []) xs r (Contains-permutation (insert xs i n) (n ∷ xs) r (IsPermutation-sym (n ∷ xs) (insert xs i n) (IsPermutation-insert xs i n)) here)) [
    | inl first ↦ inr (sym (only_one n r first))
    | inr more ↦ inl more
  ],
  λ both. Contains-permutation (n ∷ xs) (insert xs i n) r (IsPermutation-insert xs i n) (elim both [
    | inl more ↦ Contains-append_right (n ∷ []) xs r more
    | inr is ↦ subst (Contains (n ∷ xs)) (sym is) (Contains-append_left (n ∷ []) xs n (Contains-push [] n))
  ]),
)

-- a thread that is put in its place is there, and no other thread more
pub enrols : (n i : ℕ) (old new : List ℕ) → IsStrictlyIncreasing old → i ≤ length old → ((k : ℕ) → k < i → get_or old k 0 < n) → ((k : ℕ) → i ≤ k → k < length old → n < get_or old k 0) → new ≡ insert old i n → Enrols n old new
enrols n i old new up within below above is = subst (Enrols n old) (sym is) (record { rising = rises old i n up within below above; each = has_both old i n })

-- a thread that is there is no thread more
pub enrolled : (n i : ℕ) (old : List ℕ) → IsStrictlyIncreasing old → i < length old → get_or old i 0 ≡ n → Enrols n old old
enrolled n i old up low is = record {
  rising = up;
  each = λ r. (λ here. inl here, λ both. elim both [ inl here ↦ here | inr same ↦ subst (Contains old) (sym same) there ]);
}
  where
    there : Contains old n
    there = (i, low, get_or_default old i n 0 low ∙ is)

-- what a search tells
found : (xs : List ℕ) (n : ℕ) (r : Result ℕ ℕ) → IsBinarySearchResult (λ y. nat_cmp y n) xs r → IsStrictlyIncreasing xs →
    MatchResult r (λ i. (i < length xs) × (get_or xs i 0 ≡ n)) (λ i. (i ≤ length xs) × ((k : ℕ) → k < i → get_or xs k 0 < n) × ((k : ℕ) → i ≤ k → k < length xs → n < get_or xs k 0))
found xs n r h up = searched xs n r h (λ i j le within. elim (cases_order i j) [
  | inl e ↦ let same : get_or xs i 0 ≡ get_or xs j 0 = ap (λ k. get_or xs k 0) e in omega (arith, same)
  | inr (inl less) ↦ let below : get_or xs i 0 < get_or xs j 0 = AllPairs-from_increasing xs up i j 0 less within in omega (arith, below)
  | inr (inr more) ↦ absurd (omega (arith, le, more))
])

-- where it goes, if it isn't there
pub place_found : (xs : List ℕ) (n i : ℕ) (r : Result ℕ ℕ) → r ≡ Err i → IsBinarySearchResult (λ y. nat_cmp y n) xs r → IsStrictlyIncreasing xs →
    (i ≤ length xs) × ((k : ℕ) → k < i → get_or xs k 0 < n) × ((k : ℕ) → i ≤ k → k < length xs → n < get_or xs k 0)
place_found xs n i r is h up = subst (λ r. MatchResult r (λ i. (i < length xs) × (get_or xs i 0 ≡ n)) (λ i. (i ≤ length xs) × ((k : ℕ) → k < i → get_or xs k 0 < n) × ((k : ℕ) → i ≤ k → k < length xs → n < get_or xs k 0))) is (found xs n r h up)

pub roll_nothing : (roll : List ℕ) → roll ≡ [] → IsRoll [] roll
roll_nothing roll is = subst (IsRoll []) (sym is) (record {
  rising = λ k within. absurd (omega (arith, within));
  each = λ r. (λ here. absurd (nothing_in r here), λ some. absurd (omega (arith, some)));
})
  where
    nothing_in : (r : ℕ) → Contains [] r → ⊥
    nothing_in r h = All-contains (λ y. ⊥) [] r (All-nil (λ y. ⊥)) h

-- the threads that ran where one call more was started
pub roll_starts : (started : List Start) (s : Start) (old new : List ℕ) → IsRoll started old → Enrols s.receiver old new → IsRoll (started ++ s ∷ []) new
roll_starts started s old new is e = record { rising = e.rising; each = λ r. (λ here. into r ((e.each r).0 here), λ some. (e.each r).1 (back r some)) }
  where
    into : (r : ℕ) → Contains old r ⊎ (r ≡ s.receiver) → 0 < calls_of r (started ++ s ∷ [])
    into r (inl here) = omega (arith, calls_of-push r started s, (is.each r).0 here)
    into r (inr same) = let one : one_if (eqb r s.receiver) ≡ 1 = ap one_if (eq-eqb r s.receiver same) in omega (arith, calls_of-push r started s, one)

    back : (r : ℕ) → 0 < calls_of r (started ++ s ∷ []) → Contains old r ⊎ (r ≡ s.receiver)
    back r some = go (eqb r s.receiver) refl
      where
        go : (b : Bool) → eqb r s.receiver ≡ b → Contains old r ⊎ (r ≡ s.receiver)
        go true e = inr (eqb-true r s.receiver e)
        go false e = let none : one_if (eqb r s.receiver) ≡ 0 = ap one_if e in inl ((is.each r).1 (omega (arith, calls_of-push r started s, none, some)))
