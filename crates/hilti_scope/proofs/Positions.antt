-- The first place that passes, one item at a time.
use Rattle.std.proofs.Common.{◌≡◌, ℕ, suc, ◌+◌, Bool, true, false, cond, not, nat_lt, List, [], ◌∷◌, ◌++◌, length, Option, Some, None, position, refl, sym, ap, ap₂, ◌∙◌, lt-ltb, arith}
use Rattle.std.specs.List.{position_or_len}
use Rattle.std.specs.Option.{option_map, option_or}
use Rattle.std.proofs.lemmas.Bool.Decides.{nat_tests}

shift : (n m : ℕ) → cond {A = Option ℕ} (nat_lt (1 + n) (suc m)) (Some (1 + n)) None ≡ option_map suc (cond (nat_lt n m) (Some n) None)
shift n m = ap₂ (λ b k. cond {A = Option ℕ} b (Some k) None) one_more (omega arith) ∙ by (nat_lt n m)
  where
    one_more : nat_lt (1 + n) (suc m) ≡ nat_lt n m
    one_more = grind (arith, nat_tests)

    by : (b : Bool) → cond {A = Option ℕ} b (Some (suc n)) None ≡ option_map suc (cond b (Some n) None)
    by true = refl
    by false = refl

pub position-cons : {X : Type 0} (p : X → Bool) (x : X) (xs : List X) → position p (x ∷ xs) ≡ cond (p x) (Some 0) (option_map suc (position p xs))
position-cons p x xs = by (p x)
  where
    by : (b : Bool) → cond {A = Option ℕ} (nat_lt (cond (not b) (1 + position_or_len p xs) 0) (suc (length xs))) (Some (cond (not b) (1 + position_or_len p xs) 0)) None ≡ cond b (Some 0) (option_map suc (position p xs))
    by true = ap (λ b. cond {A = Option ℕ} b (Some 0) None) (lt-ltb 0 (suc (length xs)) (omega arith))
    by false = shift (position_or_len p xs) (length xs)

-- an item that fails in front of items that all fail
pub position_none : {X : Type 0} (p : X → Bool) (x : X) (xs : List X) → p x ≡ false → position p xs ≡ None → position p (x ∷ xs) ≡ None
position_none p x xs fails none = position-cons p x xs ∙ ap (λ b. cond b (Some 0) (option_map suc (position p xs))) fails ∙ ap (option_map suc) none

-- one item more
pub position-push : {X : Type 0} (p : X → Bool) (xs : List X) (y : X) → position p (xs ++ y ∷ []) ≡ option_or (position p xs) (cond (p y) (Some (length xs)) None)
position-push p [] y = position-cons p y []
position-push p (x ∷ xs) y =
    position-cons p x (xs ++ y ∷ []) ∙ ap (λ r. cond (p x) (Some 0) (option_map suc r)) (position-push p xs y) ∙ by (p x) (position p xs) (p y) ∙ ap (λ r. option_or r (cond (p y) (Some (suc (length xs))) None)) (sym (position-cons p x xs))
  where
    by : (b : Bool) (r : Option ℕ) (q : Bool) → cond b (Some 0) (option_map suc (option_or r (cond q (Some (length xs)) None))) ≡ option_or (cond b (Some 0) (option_map suc r)) (cond q (Some (suc (length xs))) None)
    by true r q = refl
    by false (Some i) q = refl
    by false None true = refl
    by false None false = refl

-- one item more, which fails
pub position_kept : {X : Type 0} (p : X → Bool) (xs : List X) (y : X) → p y ≡ false → position p (xs ++ y ∷ []) ≡ position p xs
position_kept p xs y fails = position-push p xs y ∙ ap (λ b. option_or (position p xs) (cond b (Some (length xs)) None)) fails ∙ by (position p xs)
  where
    by : (r : Option ℕ) → option_or r None ≡ r
    by None = refl
    by (Some i) = refl
