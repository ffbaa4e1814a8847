-- What the value's journal is when no pass is inside any more.
use Rattle.std.proofs.Common.{◌≡◌, ℕ, ◌<◌, ⊎_elim, List, length, sym, ap, ◌∙◌, subst, arith, Option, Some}
use Rattle.std.proofs.lemmas.List.Elements.{All-weaker, All-contains}
use Rattle.std.specs.List.{All, Contains}
use mathlib.Core.Option as core
use mathlib.Core.List.{IsPrefix}
use lib.ListN.{get_elem?}
use Rattle.atomic_table.specs.Table.{State, Final, Seen}
use Rattle.hilti_turn.specs.declared.view.Stage.TheVariants.{Outside, Inside, Spent}
use Rattle.hilti_turn.specs.declared.view.Heard.{Heard}
use Rattle.hilti_turn.specs.declared.view.View.{View}
use Rattle.hilti_turn.specs.Journal.{made_by}
use Rattle.hilti_turn.specs.Rule.{lying, taken, Remembers, InTurn, told_of, Tells}
use Rattle.hilti_turn.proofs.Views.{at_length}

module _ {V E A : Type 0} (entries : V → List E) (maker : E → ℕ) (about : V → A) (topic : A) (seats : ℕ) where
  abbrev St : Type 0
  St = State (Option V) (View E A)

  abbrev Rule : St → Type 0
  Rule = InTurn entries maker about topic seats

  -- what a pass knew is so of the value
  abbrev pub IsSoOf : V → Heard E A → Type 0
  IsSoOf x h = IsPrefix h.seen (entries x) × (made_by maker h.number (entries x) ≡ h.mine) × (h.about ≡ Some (about x))

  pub record Ends (v : View E A) (slot : Option V) : Type 0 where
    pub value : V
    pub there : slot ≡ Some value
    pub known : (h : Heard E A) → Tells v h → IsSoOf value h
    pub numbered : All (λ e. maker e < seats) (entries value)

  remembered : (s : St) (r : Rule s) (id : ℕ) (v : View E A) → get_elem? s.views id ≡ core.some v → v.stage ≡ Outside → (h : Heard E A) → Tells v h
      → IsPrefix h.seen r.log × (made_by maker h.number r.log ≡ h.mine) × (h.about ≡ Some topic)
  remembered s r id v at outside h tells =
      let mine = r.knows id v at (λ e. absurd (cc (outside, e))) in
      ⊎_elim
      (λ (same : told_of v ≡ h). subst (λ (z : Heard E A). IsPrefix z.seen r.log × (made_by maker z.number r.log ≡ z.mine) × (z.about ≡ Some topic)) same
      (mine.seen, ap (λ n. made_by maker n r.log) mine.number ∙ mine.mine, mine.about))
      (λ (heard : Contains v.heard h). let t = All-contains (Remembers maker topic r.log s.views) v.heard h mine.heard heard in (t.0, t.1, t.2))
      tells

  -- who was taken over, or is outside, isn't inside
  not_inside : (s : St) (r : Rule s) (id : ℕ) (v : View E A) → get_elem? s.views id ≡ core.some v → v.stage ≡ Outside → (h : Heard E A) → Tells v h
      → (holder : ℕ) (u : View E A) → get_elem? s.views holder ≡ core.some u → u.stage ≡ Inside → h.number ≡ holder → ⊥
  not_inside s r id v at outside h tells holder u there inside is =
      let mine = r.knows id v at (λ e. absurd (cc (outside, e))) in
      ⊎_elim
      (λ (same : told_of v ≡ h).
      let place : holder ≡ id = sym is ∙ (sym (ap (λ (z : Heard E A). z.number) same) ∙ mine.number) in
      let e : u ≡ v = core.some-injective u v (sym there ∙ (ap (get_elem? s.views) place ∙ at)) in
      let clash : Inside ≡ Outside = sym inside ∙ (ap (λ (z : View E A). z.stage) e ∙ outside) in cc clash)
      (λ (heard : Contains v.heard h).
      let t = All-contains (Remembers maker topic r.log s.views) v.heard h mine.heard heard in
      let e : u ≡ t.3.0 = core.some-injective u t.3.0 (sym there ∙ (ap (get_elem? s.views) (sym is) ∙ t.3.1)) in
      let clash : Inside ≡ Spent = sym inside ∙ (ap (λ (z : View E A). z.stage) e ∙ t.3.2) in cc clash)
      tells

  pub ends : (id : ℕ) (v : View E A) (ws : List ℕ) (xs : List (Option V)) (slot : Option V) → Final (Seen Rule id v) ws xs → get_elem? xs 0 ≡ core.some slot → v.stage ≡ Outside
      → ((n : ℕ) → n < seats → (h : Heard E A) × (h.number ≡ n) × Tells v h) → Ends v slot
  ends id v ws xs slot final taken_out outside all =
      let s = final.0 in let r = final.1.0 in let at = final.1.1 in
      ⊎_elim
      (λ (t : (x : V) × (s.homes ≡ lying (Some x)) × (entries x ≡ r.log) × (about x ≡ topic)). record {
        value = t.0;
        there = core.some-injective slot (Some t.0) (sym taken_out ∙ final.4 0 (Some t.0) (ap (λ h. get_elem? h 0) t.1));
        known = λ h tells. let k = remembered s r id v at outside h tells in (
          subst (IsPrefix h.seen) (sym t.2) k.0,
          ap (made_by maker h.number) t.2 ∙ k.1,
          k.2 ∙ ap Some (sym t.3),
        );
        numbered = subst (All (λ e. maker e < seats)) (sym t.2) (All-weaker (λ (e : E). maker e < length s.views) (λ (e : E). maker e < seats) (λ e lt. let few = r.few in omega arith) r.log r.numbered);
      })
      (λ (t : (s.homes ≡ taken) × ((holder : ℕ) × (u : View E A) × (get_elem? s.views holder ≡ core.some u) × (u.stage ≡ Inside))).
      let out = t.1 in
      let inside = at_length s.views out.0 out.1 out.2 in
      let h = all out.0 (let few = r.few in omega arith) in
      absurd (not_inside s r id v at outside h.0 h.2 out.0 out.1 out.2 out.3 h.1))
      r.placed
