-- Passes in a row: as they are made, and as one of them takes over what the others knew.
use Rattle.std.proofs.Common.{◌≡◌, ℕ, ◌+◌, zero, suc, ◌⊎◌, inl, inr, ⊎_elim, List, [], ◌∷◌, ◌++◌, length, refl, sym, ap, ◌∙◌, subst, arith, append_assoc, Some, slice_get}
use Rattle.std.proofs.lemmas.List.Elements.{All-nil, All-cons, All-weaker, Contains-append_right}
use Rattle.std.specs.List.{All}
use Rattle.hilti_turn.specs.declared.view.Heard.{Heard}
use Rattle.hilti_turn.specs.declared.view.View.{View}
use Rattle.hilti_turn.specs.declared.pass.Pass.{Pass}
use Rattle.hilti_turn.specs.declared.turn.Turn.{Turn}
use Rattle.hilti_turn.specs.Rule.{told_of, joined, Tells}
use Rattle.hilti_turn.specs.Passes.{number, IsOutside, IsFresh}
use Rattle.hilti_turn.specs.Turns.{IsPassOf, AreFresh, AreFreshFrom}

module _ {X : Type 0} where
  got_push : (xs : List X) (y z : X) (k : ℕ) → slice_get (xs ++ y ∷ []) k ≡ Some z → (slice_get xs k ≡ Some z) ⊎ ((k ≡ length xs) × (y ≡ z))
  got_push [] y z zero at = inr (refl, cc at)
  got_push [] y z (suc k) at = absurd (cc at)
  got_push (x ∷ xs) y z zero at = inl at
  got_push (x ∷ xs) y z (suc k) at = ⊎_elim (λ t. inl t) (λ t. inr (ap suc t.0, t.1)) (got_push xs y z k at)

module _ {V E A : Type 0} (turn : Turn V E A) (topic : A) where
  -- one pass more, with the next number
  pub fresh_push : (from : ℕ) (passes : List (Pass V E A)) (p : Pass V E A) → AreFreshFrom from turn topic passes → number p ≡ from + length passes → IsPassOf turn p → IsFresh topic p
      → AreFreshFrom from turn topic (passes ++ p ∷ [])
  fresh_push from passes p fresh at own new k q there = ⊎_elim
      (λ t. fresh k q t)
      (λ (t : (k ≡ length passes) × (p ≡ q)). subst (λ (z : ℕ × Pass V E A). (number z.1 ≡ from + z.0) × IsPassOf turn z.1 × IsFresh topic z.1) (λ i. (sym t.0 i, t.1 i)) (at, own, new))
      (got_push passes p q k there)

  -- the first pass stands before the others
  pub fresh_front : (passes : List (Pass V E A)) (p : Pass V E A) → AreFreshFrom 1 turn topic passes → number p ≡ 0 → IsPassOf turn p → IsFresh topic p → AreFresh turn topic (p ∷ passes)
  fresh_front passes p fresh at own new zero q there = let e : p ≡ q = cc there in subst (λ (z : Pass V E A). (number z ≡ 0) × IsPassOf turn z × IsFresh topic z) e (at, own, new)
  fresh_front passes p fresh at own new (suc k) q there = let others = fresh k q there in (others.0 ∙ omega arith, others.1, others.2)

module _ {V E A : Type 0} (turn : Turn V E A) where
  abbrev pub Tells_of : Pass V E A → Pass V E A → Type 0
  Tells_of last p = Tells last.seat.me.0 (told_of p.seat.me.0)

  -- the last pass knows what those knew that aren't left
  pub record Gathers (all left : List (Pass V E A)) (last : Pass V E A) : Type 0 where
    pub own : IsPassOf turn last × IsOutside last
    pub others : All (λ p. IsPassOf turn p × IsOutside p) left
    pub done : List (Pass V E A)
    pub whole : all ≡ left ++ done
    pub told : All (Tells_of last) done

tells_more : {E A : Type 0} (v w : View E A) (h : Heard E A) → Tells v h → Tells (joined v w) h
tells_more v w h tells = ⊎_elim (λ same. inl same) (λ heard. inr (Contains-append_right (told_of w ∷ []) (w.heard ++ v.heard) h (Contains-append_right w.heard v.heard h heard))) tells

module _ {V E A : Type 0} (turn : Turn V E A) where
  -- it takes over one more
  pub gathers_one : (all left left' : List (Pass V E A)) (last p last' : Pass V E A) → Gathers turn all left last → left ≡ left' ++ p ∷ [] → All (λ q. IsPassOf turn q × IsOutside q) left'
      → IsPassOf turn last' × IsOutside last' → last'.seat.me.0 ≡ joined last.seat.me.0 p.seat.me.0 → Gathers turn all left' last'
  gathers_one all left left' last p last' before popped others own view =
      let v = last.seat.me.0 in let w = p.seat.me.0 in
      let new : Tells (joined v w) (told_of w) = inr (0, omega arith, refl) in
      record {
        own = own;
        others = others;
        done = p ∷ before.done;
        whole = before.whole ∙ (ap (λ l. l ++ before.done) popped ∙ append_assoc left' (p ∷ []) before.done);
        told = All-cons (Tells_of turn last') p before.done
            (subst (λ z. Tells z (told_of w)) (sym view) new)
            (All-weaker (Tells_of turn last) (Tells_of turn last') (λ q tells. subst (λ z. Tells z (told_of q.seat.me.0)) (sym view) (tells_more v w (told_of q.seat.me.0) tells)) before.done before.told);
      }

  -- at first it knows itself
  pub gathers_none : (all left : List (Pass V E A)) (last : Pass V E A) → all ≡ left ++ last ∷ [] → All (λ p. IsPassOf turn p × IsOutside p) left → IsPassOf turn last × IsOutside last → Gathers turn all left last
  gathers_none all left last popped others own = record {
    own = own;
    others = others;
    done = last ∷ [];
    whole = popped;
    told = All-cons (Tells_of turn last) last [] (inl refl) (All-nil (Tells_of turn last));
  }

  -- at last it knows all
  pub gathers_all : (all left : List (Pass V E A)) (last : Pass V E A) → Gathers turn all left last → left ≡ [] → All (Tells_of turn last) all
  gathers_all all left last gathers none = subst (All (Tells_of turn last)) (sym (gathers.whole ∙ ap (λ l. l ++ gathers.done) none)) gathers.told
