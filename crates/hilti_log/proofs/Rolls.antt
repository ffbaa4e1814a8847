-- Two lists of the threads that ran are one.
use Rattle.std.proofs.Common.{◌≡◌, ℕ, ◌+◌, ◌<◌, ◌≤◌, ◌↔◌, ◌⊎◌, inl, inr, suc, zero, List, [], ◌∷◌, ◌++◌, length, get_or, Contains, All, refl, ap, sym, ◌∙◌, subst, arith, map, take, Option, Some, None, slice_get}
use Rattle.std.specs.List.Sorted.{IsStrictlyIncreasing}
use Rattle.std.specs.List.{flat_map, AllPairs}
use Rattle.std.proofs.lemmas.List.Elements.{All-nil, All-contains, Contains-append_left, Contains-append_right, Contains-append_cases, Contains-push}
use Rattle.std.proofs.lemmas.List.Kept.{AllPairs-from_increasing}
use Rattle.hilti_core.specs.Machine.{Start}
use Rattle.hilti_pool.specs.Roll.{IsRoll}

nothing_in : (r : ℕ) → Contains [] r → ⊥
nothing_in r h = All-contains (λ y. ⊥) [] r (All-nil (λ y. ⊥)) h

tail_rises : (x : ℕ) (xs : List ℕ) → IsStrictlyIncreasing (x ∷ xs) → IsStrictlyIncreasing xs
tail_rises x xs up k within =
    let e : suc k + 1 ≡ suc (k + 1) = omega arith in
    subst (λ n. get_or xs k 0 < get_or (x ∷ xs) n 0) e (up (suc k) (omega arith))

-- the first is below all others
head_below : (x : ℕ) (xs : List ℕ) (r : ℕ) → IsStrictlyIncreasing (x ∷ xs) → Contains xs r → x < r
head_below x xs r up (k, within, is) =
    let low : x < get_or xs k 0 = AllPairs-from_increasing (x ∷ xs) up 0 (suc k) 0 (omega arith) (omega arith) in
    let same : get_or xs k 0 ≡ r = at k xs within is in
    omega arith
  where
    at : (k : ℕ) (xs : List ℕ) → k < length xs → get_or xs k r ≡ r → get_or xs k 0 ≡ r
    at k [] within is = absurd (omega arith)
    at zero (y ∷ ys) within is = is
    at (suc k) (y ∷ ys) within is = at k ys (omega arith) is

first_in : (x : ℕ) (xs : List ℕ) → Contains (x ∷ xs) x
first_in x xs = Contains-append_left (x ∷ []) xs x (Contains-push [] x)

one_only : (x r : ℕ) → Contains (x ∷ []) r → r ≡ x
one_only x r (zero, within, is) = sym is
one_only x r (suc k, within, is) = absurd (omega arith)

split : (x : ℕ) (xs : List ℕ) (r : ℕ) → Contains (x ∷ xs) r → (r ≡ x) ⊎ Contains xs r
split x xs r h = elim (Contains-append_cases (x ∷ []) xs r h) [
  | inl here ↦ inl (one_only x r here)
  | inr there ↦ inr there
]

at_least : (x : ℕ) (xs : List ℕ) (r : ℕ) → IsStrictlyIncreasing (x ∷ xs) → Contains (x ∷ xs) r → x ≤ r
at_least x xs r up h = elim (split x xs r h) [
  | inl same ↦ omega (arith, same)
  | inr there ↦ omega (arith, head_below x xs r up there)
]

-- rising numbers that are the same are one list
pub same_numbers : (xs ys : List ℕ) → IsStrictlyIncreasing xs → IsStrictlyIncreasing ys → ((r : ℕ) → Contains xs r ↔ Contains ys r) → xs ≡ ys
same_numbers [] [] up vp each = refl
same_numbers [] (y ∷ ys) up vp each = absurd (nothing_in y ((each y).1 (first_in y ys)))
same_numbers (x ∷ xs) [] up vp each = absurd (nothing_in x ((each x).0 (first_in x xs)))
same_numbers (x ∷ xs) (y ∷ ys) up vp each =
    let low : y ≤ x = at_least y ys x vp ((each x).0 (first_in x xs)) in
    let high : x ≤ y = at_least x xs y up ((each y).1 (first_in y ys)) in
    let same : x ≡ y = omega arith in
    let rest : xs ≡ ys = same_numbers xs ys (tail_rises x xs up) (tail_rises y ys vp) (λ r. (
      λ here. elim (split y ys r ((each r).0 (Contains-append_right (x ∷ []) xs r here))) [
        | inl is ↦ absurd (omega (arith, head_below x xs r up here, is))
        | inr there ↦ there
      ],
      λ here. elim (split x xs r ((each r).1 (Contains-append_right (y ∷ []) ys r here))) [
        | inl is ↦ absurd (omega (arith, head_below y ys r vp here, is))
        | inr there ↦ there
      ],
    )) in
    cc

pub one_roll : (started : List Start) (a b : List ℕ) → IsRoll started a → IsRoll started b → a ≡ b
one_roll started a b h k = same_numbers a b h.rising k.rising (λ r. (λ here. (k.each r).1 ((h.each r).0 here), λ here. (h.each r).1 ((k.each r).0 here)))
