-- The exceptions of a program make a tree below `Exception`.
use Rattle.std.proofs.Common.{◌≡◌, ℕ, zero, suc, ◌<◌, ◌≤◌, List, [], ◌∷◌, refl, sym, ap, ◌∙◌, length, take, slice_get, arith, ◌⊎◌, inl, inr}
use Rattle.std.proofs.Common.{Option, Some, None, IsSomeAnd}
use Rattle.std.proofs.lemmas.Bool.{cases_lt}
use Rattle.std.proofs.lemmas.Option.{slice_get_within}
use Rattle.std.specs.Option.{option_and_then}
use Rattle.hilti_base.specs.declared.refusal.Raise.{Raise}
use Rattle.hilti_parts.specs.declared.parts.Exception.{Exception}
use Rattle.hilti_typing.specs.Exceptions.{built_in_exceptions, the_top, below_top, AreExceptions, parent_of, above, IsBelow}
use Rattle.hilti_typing.specs.Exceptions.{raise_number, raise_word, ExceptionTree, ExceptionsMakeTree}
use Rattle.hilti_typing.proofs.Programs.{some_at}

-- an item in the front of a list stands in the list
in_front : {X : Type 0} (xs : List X) (n i : ℕ) → i < n → slice_get (take n xs) i ≡ slice_get xs i
in_front xs zero i h = absurd (omega arith)
in_front [] (suc n) i h = refl
in_front (x ∷ xs) (suc n) zero h = refl
in_front (x ∷ xs) (suc n) (suc i) h = in_front xs n i (omega arith)

some_number : (o : Option ℕ) (at : ℕ) → IsSomeAnd o (λ p. p < at) → (p : ℕ) × (o ≡ Some p) × (p < at)
some_number None at is = absurd is
some_number (Some p) at is = (p, refl, is)

same_number : (p q : ℕ) → Some p ≡ Some q → p ≡ q
same_number p q e = cc

no_number : (p : ℕ) → None ≡ Some p → ⊥
no_number p e = cc

-- each built-in exception but the first stands right below the first
below_first : (k : ℕ) → k < 6 → parent_of built_in_exceptions (suc k) ≡ Some 0
below_first zero h = refl
below_first (suc zero) h = refl
below_first (suc (suc zero)) h = refl
below_first (suc (suc (suc zero))) h = refl
below_first (suc (suc (suc (suc zero)))) h = refl
below_first (suc (suc (suc (suc (suc zero))))) h = refl
below_first (suc (suc (suc (suc (suc (suc k)))))) h = absurd (omega arith)

module _ (exceptions : List Exception) (are : AreExceptions exceptions) where
  first_ones : (i : ℕ) → i < 7 → slice_get exceptions i ≡ slice_get built_in_exceptions i
  first_ones i h = sym (in_front exceptions 7 i h) ∙ ap (λ xs. slice_get xs i) are.built_in

  abbrev the_parent : Option Exception → Option ℕ
  the_parent found = option_and_then (λ (x : Exception). x.parent) found

  top_is : slice_get exceptions 0 ≡ Some the_top
  top_is = first_ones 0 (omega arith)

  no_parent : parent_of exceptions 0 ≡ None
  no_parent = ap the_parent top_is

  -- an exception is the first, or has a parent that stands before it
  abbrev HasParent : ℕ → Type 0
  HasParent e = (p : ℕ) × (parent_of exceptions e ≡ Some p) × (p < e)

  has_parent : (e : ℕ) → e < length exceptions → (e ≡ 0) ⊎ HasParent e
  has_parent zero h = inl refl
  has_parent (suc k) h = by_place (cases_lt (suc k) 7)
    where
      by_place : (suc k < 7) ⊎ (7 ≤ suc k) → (suc k ≡ 0) ⊎ HasParent (suc k)
      by_place (inl low) = inr (0, ap the_parent (first_ones (suc k) low) ∙ below_first k (omega arith), omega arith)
      by_place (inr high) =
          let it = some_at exceptions (suc k) h in
          let p = some_number it.0.parent (suc k) (are.declared (suc k) it.0 it.1 high) in
          inr (p.0, ap the_parent it.1 ∙ p.1, p.2)

  -- an exception with a parent is there
  is_there : (e p : ℕ) (found : Option Exception) → slice_get exceptions e ≡ found → the_parent found ≡ Some p → e < length exceptions
  is_there e p None at is = absurd (no_number p is)
  is_there e p (Some x) at is = slice_get_within exceptions e x at

  before : (e p : ℕ) → parent_of exceptions e ≡ Some p → p < e
  before e p is = by_parent (has_parent e (is_there e p (slice_get exceptions e) refl is))
    where
      by_parent : (e ≡ 0) ⊎ HasParent e → p < e
      by_parent (inl first) = absurd (no_number p (sym no_parent ∙ (ap (parent_of exceptions) (sym first) ∙ is)))
      by_parent (inr (q, is_q, lt)) = let same = same_number p q (sym is ∙ is_q) in omega (arith, same, lt)

  only_first : (e : ℕ) → e < length exceptions → parent_of exceptions e ≡ None → e ≡ 0
  only_first e h none = by_parent (has_parent e h)
    where
      by_parent : (e ≡ 0) ⊎ HasParent e → e ≡ 0
      by_parent (inl first) = first
      by_parent (inr (p, is, lt)) = absurd (no_number p (sym none ∙ is))

  -- one step up
  pub step_up : (e p other : ℕ) → parent_of exceptions e ≡ Some p → IsBelow exceptions p other → IsBelow exceptions e other
  unfolding above
  step_up e p other is (steps, leads) = (suc steps, ap (λ found. option_and_then (λ (q : ℕ). above exceptions steps q) found) is ∙ leads)

  up : (e : ℕ) → (e ≡ 0) ⊎ HasParent e → ((p : ℕ) → p < e → IsBelow exceptions p 0) → IsBelow exceptions e 0
  unfolding above
  up e (inl first) below = (0, ap (λ n. Some n) first)
  up e (inr (p, is, lt)) below = step_up e p 0 is (below p lt)

  all_below : (bound e : ℕ) → e < bound → e < length exceptions → IsBelow exceptions e 0
  all_below zero e low h = absurd (omega arith)
  all_below (suc bound) e low h = up e (has_parent e h) (λ p lt. all_below bound p (omega arith) (omega arith))

  raised_at : (r : Raise) → slice_get exceptions (raise_number r) ≡ Some (below_top (raise_word r))
  raised_at Raise.ValueError = first_ones 1 (omega arith)
  raised_at Raise.IndexError = first_ones 2 (omega arith)
  raised_at Raise.DivisionByZero = first_ones 3 (omega arith)
  raised_at Raise.NullReference = first_ones 4 (omega arith)
  raised_at Raise.UnsetField = first_ones 5 (omega arith)
  raised_at Raise.StaleIterator = first_ones 6 (omega arith)

  tree : ExceptionTree exceptions
  tree = record {
    top = top_is;
    raised = raised_at;
    parent_before = before;
    only_top = only_first;
    below_all = λ e h. all_below (suc e) e (omega arith) h;
  }

pub exceptions_make_tree : ExceptionsMakeTree
exceptions_make_tree = tree
