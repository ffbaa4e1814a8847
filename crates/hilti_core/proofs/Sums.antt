-- Sums over the threads below a bound, where one thread changes.
use Rattle.std.proofs.Common.{◌≡◌, ℕ, ◌+◌, ◌<◌, ◌≤◌, zero, suc, Bool, true, false, cond, refl, ap, arith, eqb}
use Rattle.std.proofs.lemmas.Bool.{eqb-true}
use Rattle.std.proofs.lemmas.Bool.Decides.{nat_tests}
use Rattle.hilti_core.specs.Sending.{put_at}
use Rattle.hilti_core.specs.Sums.{sum_below}

pub sum_same : (bound : ℕ) (f g : ℕ → ℕ) → ((x : ℕ) → f x ≡ g x) → sum_below bound f ≡ sum_below bound g
sum_same zero f g h = refl
sum_same (suc n) f g h = omega (arith, sum_same n f g h, h n)

pub sum_le : (bound : ℕ) (f g : ℕ → ℕ) → ((x : ℕ) → f x ≤ g x) → sum_below bound f ≤ sum_below bound g
sum_le zero f g h = omega arith
sum_le (suc n) f g h = omega (arith, sum_le n f g h, h n)

pub sum_zero : (bound : ℕ) (f : ℕ → ℕ) → ((x : ℕ) → f x ≡ 0) → sum_below bound f ≡ 0
sum_zero zero f h = refl
sum_zero (suc n) f h = omega (arith, sum_zero n f h, h n)

module _ {A : Type 0} (g : ℕ → A → ℕ) (f : ℕ → A) (n : ℕ) (v : A) where
  at_same : (x : ℕ) → x ≡ n → g x (put_at f n v x) ≡ g n v
  at_same x e = go (eqb x n) refl
    where
      go : (b : Bool) → eqb x n ≡ b → g x (cond b v (f x)) ≡ g n v
      go true is = ap (λ y. g y v) e
      go false is = absurd (grind (arith, nat_tests))

  at_other : (x : ℕ) → ((x ≡ n) → ⊥) → g x (put_at f n v x) ≡ g x (f x)
  at_other x e = go (eqb x n) refl
    where
      go : (b : Bool) → eqb x n ≡ b → g x (cond b v (f x)) ≡ g x (f x)
      go true is = absurd (e (eqb-true x n is))
      go false is = refl

  -- a change at or past the bound leaves the sum
  pub sum_put_past : (bound : ℕ) → bound ≤ n → sum_below bound (λ x. g x (put_at f n v x)) ≡ sum_below bound (λ x. g x (f x))
  sum_put_past zero h = refl
  sum_put_past (suc k) h = omega (arith, sum_put_past k (omega arith), at_other k (λ e. omega arith))

  -- a change below the bound changes the sum by what it changes there
  pub sum_put : (bound : ℕ) → n < bound → sum_below bound (λ x. g x (put_at f n v x)) + g n (f n) ≡ sum_below bound (λ x. g x (f x)) + g n v
  sum_put zero h = absurd (omega arith)
  sum_put (suc k) h = go (sum_put k) (eqb k n) refl
    where
      go : (n < k → sum_below k (λ x. g x (put_at f n v x)) + g n (f n) ≡ sum_below k (λ x. g x (f x)) + g n v) →
          (b : Bool) → eqb k n ≡ b → sum_below (suc k) (λ x. g x (put_at f n v x)) + g n (f n) ≡ sum_below (suc k) (λ x. g x (f x)) + g n v
      go again true is =
          let e : k ≡ n = eqb-true k n is in
          omega (arith, sum_put_past k (omega arith), at_same k e, ap (λ x. g x (f x)) e)
      go again false is =
          let e : (k ≡ n) → ⊥ = λ e. grind (arith, nat_tests) in
          let less : n < k = grind (arith, nat_tests) in
          omega (arith, again less, at_other k e)
