-- What a closed turn hands out, by what each pass knew.
use Rattle.std.proofs.Common.{◌≡◌, ℕ, ◌<◌, ◌≤◌, ⊎_elim, List, length, get_or, sym, ap, ◌∙◌, subst, arith, Option, Some, None, slice_get}
use Rattle.std.proofs.lemmas.List.Elements.{All-weaker}
use Rattle.std.proofs.lemmas.Option.{slice_get_within, get_or_from_slice_get, slice_get_cases}
use Rattle.std.specs.List.{All}
use mathlib.Core.List.{IsPrefix}
use Rattle.hilti_turn.specs.declared.view.Heard.{Heard}
use Rattle.hilti_turn.specs.declared.pass.Pass.{Pass}
use Rattle.hilti_turn.specs.declared.turn.Turn.{Turn}
use Rattle.hilti_turn.specs.Journal.{made_by}
use Rattle.hilti_turn.specs.Rule.{told_of, Tells}
use Rattle.hilti_turn.specs.Passes.{number, about, seen, mine, IsOutside}
use Rattle.hilti_turn.specs.Turns.{seat_count, IsPassOf, HasNumber, AreAll}
use Rattle.hilti_turn.proofs.Rows.{Tells_of}
use Rattle.hilti_turn.proofs.Ending.{Ends}

-- where each pass stands at the place of its number, none is missing
pub AreAll-by_place : {V E A : Type 0} (turn : Turn V E A) (passes : List (Pass V E A)) → seat_count turn ≡ length passes
    → ((k : ℕ) (p : Pass V E A) → slice_get passes k ≡ Some p → number p ≡ k) → AreAll turn passes
AreAll-by_place {V} {E} {A} turn passes long placed n lt = ⊎_elim
    (λ (t : (p : Pass V E A) × (n < length passes) × (slice_get passes n ≡ Some p) × (get_or passes n p ≡ p)). (n, t.0, t.2, placed n t.0 t.2))
    (λ (t : (length passes ≤ n) × (slice_get passes n ≡ None)). absurd (let past = t.0 in omega arith))
    (slice_get_cases passes n).1

module _ {V E A : Type 0} (turn : Turn V E A) (passes : List (Pass V E A)) (last : Pass V E A) where
  -- each seat was taken over
  pub all_told : All (λ p. IsPassOf turn p × IsOutside p) passes → All (Tells_of turn last) passes → AreAll turn passes
      → (n : ℕ) → n < seat_count turn → (h : Heard E A) × (h.number ≡ n) × Tells last.seat.me.0 h
  all_told own tells all n lt =
      let here = all n lt in let p = here.1 in
      let is : get_or passes here.0 p ≡ p = get_or_from_slice_get passes here.0 p p here.2 in
      let inside = slice_get_within passes here.0 p here.2 in
      let mine = subst (λ (q : Pass V E A). IsPassOf turn q × IsOutside q) is (own here.0 p inside) in
      (told_of p.seat.me.0, sym mine.0.1 ∙ here.3, subst (Tells_of turn last) is (tells here.0 p inside))

  module _ (entries : V → List E) (maker : E → ℕ) (topic : V → A) (opening : A) where
    -- the value's journal has of each pass what that pass made, and of others nothing
    pub record Closes (value : V) : Type 0 where
      pub begins : All (λ p. IsPrefix (seen p) (entries value)) passes
      pub own_entries : All (λ p. made_by maker (number p) (entries value) ≡ mine p) passes
      pub no_others : All (λ e. HasNumber passes (maker e)) (entries value)
      pub about : All (λ p. about p ≡ Some (topic value)) passes

    pub closes : (slot : Option V) (value : V) → Ends entries maker topic opening (seat_count turn) last.seat.me.0 slot → slot ≡ Some value
        → All (λ p. IsPassOf turn p × IsOutside p) passes → All (Tells_of turn last) passes → AreAll turn passes → Closes value
    closes slot value ends is own tells all =
        let there : Some ends.value ≡ Some value = sym ends.there ∙ is in
        let same : ends.value ≡ value = cc there in
        let known = ends.known in let numbered = ends.numbered in
        let from : Closes ends.value = record {
          begins = λ k d inside. (known (told_of (get_or passes k d).seat.me.0) (tells k d inside)).0;
          own_entries = λ k d inside.
              let so = known (told_of (get_or passes k d).seat.me.0) (tells k d inside) in
              ap (λ n. made_by maker n (entries ends.value)) (own k d inside).0.1 ∙ so.1;
          no_others = All-weaker (λ (e : E). maker e < seat_count turn) (λ (e : E). HasNumber passes (maker e)) (λ e lt. all (maker e) lt) (entries ends.value) numbered;
          about = λ k d inside. (known (told_of (get_or passes k d).seat.me.0) (tells k d inside)).2;
        } in
        subst Closes same from
