-- How many seats have a ticket.
use Rattle.std.proofs.Common.{◌≡◌, ℕ, ◌+◌, ◌<◌, ◌≤◌, Bool, true, false, zero, suc, List, [], ◌∷◌, ◌++◌, length, get_or, set, refl, sym, subst, arith}
use Rattle.std.proofs.lemmas.List.Sums.{sum_by-set, sum_by_push, sum_by-le}
use Rattle.std.proofs.lemmas.Bool.{}
use Rattle.std.specs.Prelude.{if◌then◌else◌}
use mathlib.Core.Option as core
use lib.ListN.{get_elem?}
use Rattle.hilti_turn.specs.declared.view.View.{View}
use Rattle.hilti_turn.specs.Rule.{has_ticket, tickets_out}

module _ {X : Type 0} where
  pub at_length : (xs : List X) (i : ℕ) (x : X) → get_elem? xs i ≡ core.some x → i < length xs
  at_length [] i x at = absurd (core.some-ne-none x (sym at))
  at_length (y ∷ ys) zero x at = omega arith
  at_length (y ∷ ys) (suc i) x at = let t = at_length ys i x at in omega arith

  pub at_get_or : (xs : List X) (i : ℕ) (x : X) → get_elem? xs i ≡ core.some x → get_or xs i x ≡ x
  at_get_or [] i x at = refl
  at_get_or (y ∷ ys) zero x at = core.some-injective y x at
  at_get_or (y ∷ ys) (suc i) x at = at_get_or ys i x at

abbrev pub held_at : Bool → ℕ
held_at b = if b then 1 else 0

module _ {E A : Type 0} where
  -- 1 where the seat has a ticket
  abbrev pub held : View E A → ℕ
  held v = held_at (has_ticket v.stage)

  pub held_le : (v : View E A) → held v ≤ 1
  held_le v = elim (has_ticket v.stage) as (λ b. (if b then 1 else 0) ≤ 1) [ true ↦ omega arith | false ↦ omega arith ]

  pub tickets_out-set : (views : List (View E A)) (i : ℕ) (v w : View E A) → get_elem? views i ≡ core.some v → tickets_out (set views i w) + held v ≡ tickets_out views + held w
  tickets_out-set views i v w at =
      subst (λ (z : View E A). tickets_out (set views i w) + held z ≡ tickets_out views + held w) (at_get_or views i v at) (sum_by-set held views i w v (at_length views i v at))

  pub tickets_out_push : (views : List (View E A)) (w : View E A) → tickets_out (views ++ w ∷ []) ≡ tickets_out views + held w
  tickets_out_push views w = sum_by_push held views w

  pub tickets_out_le : (views : List (View E A)) → tickets_out views ≤ length views
  tickets_out_le views = let most = sum_by-le held 1 views (λ k d _. held_le (get_or views k d)) in omega arith
