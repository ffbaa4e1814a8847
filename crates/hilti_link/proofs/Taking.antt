-- A loop over things with words, each judged over the words of those in front of it, which are noted.
use Rattle.std.proofs.Common.{◌≡◌, refl, sym, ◌∙◌, ap, subst, ℕ, ◌+◌, ◌<◌, ◌≤◌, cond, List, [], ◌∷◌, ◌++◌, length, map, take, drop, get_or, Option, Some, None, append_assoc}
use Rattle.std.specs.Prelude.{bytes_eq}
use Rattle.std.specs.Option.{option_or}
use Rattle.std.proofs.lemmas.List.{take_more, map-append}
use Rattle.hilti_base.specs.declared.refusal.Refusal.{Refusal}
use Rattle.hilti_scope.specs.FirstPlaces.{place_of}
use Rattle.hilti_link.specs.InTurn.{first_in_turn, behind_all}
use Rattle.hilti_link.specs.Views.{Holds}
use Rattle.hilti_link.proofs.Turns.{Going, going_first, loop_more, loop_end, behind_end}
use Rattle.hilti_link.proofs.Answering.{Refused, loop_refuses, loop_accepts, holds_more}

pub holds_new : (noted : List (List ℕ × ℕ)) → noted ≡ [] → Holds [] noted
unfolding place_of
holds_new noted new = subst (λ noted. Holds [] noted) (sym new) (λ bytes. refl)

module _ {X : Type 0} (judge : List (List ℕ) → X → Option Refusal) (word_of : X → List ℕ) where
  abbrev pub taking_next : List (List ℕ) → X → List (List ℕ)
  taking_next known next = known ++ word_of next ∷ []

  -- over any words that were noted first: those that are noted now, and what is left to be judged over them
  abbrev pub Taking : List (List ℕ × ℕ) → List (List ℕ × ℕ) → List X → List X → Type 0
  Taking first noted all left =
      (before : List (List ℕ)) → Holds before first → (state : List (List ℕ)) × Holds state noted × Going judge taking_next before all state left

  -- in front of the first
  pub taking_first : (first : List (List ℕ × ℕ)) (all : List X) → Taking first first all all
  taking_first first all = λ before holds. (before, holds, going_first judge taking_next before all)

  -- this one isn't refused, and its word is noted
  pub taking_more : (first noted after : List (List ℕ × ℕ)) (all items : List X) (at : ℕ) (part : X) (word : List ℕ) (place : ℕ)
      → at < length items → part ≡ get_or items at part → word ≡ word_of part
      → ((bytes : List ℕ) → place_of after bytes ≡ option_or (place_of noted bytes) (cond (bytes_eq word bytes) (Some place) None))
      → ((words : List (List ℕ)) → Holds words noted → judge words part ≡ None)
      → Taking first noted all (drop at items) → Taking first after all (drop (at + 1) items)
  taking_more first noted after all items at part word place below is word_is noting accepted taking = λ before holds.
      let so_far = taking before holds in (
        taking_next so_far.0 part,
        subst (λ word. Holds (so_far.0 ++ word ∷ []) after) word_is (holds_more so_far.0 word place noted after so_far.1 noting),
        loop_more judge taking_next before all so_far.0 items at part below is (accepted so_far.0 so_far.1) so_far.2,
      )

  -- this one is refused
  pub taking_refuses : (first noted : List (List ℕ × ℕ)) (all items : List X) (at : ℕ) (part : X) (e : Refusal)
      → at < length items → part ≡ get_or items at part → ((words : List (List ℕ)) → Holds words noted → Refused e (judge words part))
      → Taking first noted all (drop at items) → (before : List (List ℕ)) → Holds before first → Refused e (first_in_turn judge taking_next before all)
  taking_refuses first noted all items at part e below is refused taking before holds =
      let so_far = taking before holds in
      loop_refuses judge taking_next before all so_far.0 items at part e below is (refused so_far.0 so_far.1) so_far.2

  -- none is left
  pub taking_accepts : (first noted : List (List ℕ × ℕ)) (all items : List X) (at : ℕ) → length items ≤ at
      → Taking first noted all (drop at items) → (before : List (List ℕ)) → Holds before first → first_in_turn judge taking_next before all ≡ None
  taking_accepts first noted all items at past taking before holds =
      let so_far = taking before holds in
      loop_accepts judge taking_next before all so_far.0 items at past so_far.2

  pub taking_holds : (first noted : List (List ℕ × ℕ)) (all items : List X) (at : ℕ) → length items ≤ at
      → Taking first noted all (drop at items) → (before : List (List ℕ)) → Holds before first → Holds (behind_all taking_next before all) noted
  taking_holds first noted all items at past taking before holds =
      let so_far = taking before holds in
      subst (λ state. Holds state noted) (behind_end judge taking_next before all so_far.0 (loop_end judge taking_next before all so_far.0 items at past so_far.2)) so_far.1

-- what is made of the things so far stands behind what was there
pub made_more : {X Y : Type 0} (make : X → Y) (front so_far next : List Y) (items : List X) (at : ℕ) (part : X) (value : Y)
    → at < length items → part ≡ get_or items at part → so_far ≡ front ++ map make (take at items) → value ≡ make part → next ≡ so_far ++ value ∷ []
    → next ≡ front ++ map make (take (at + 1) items)
made_more make front so_far next items at part value below is before made pushed =
    pushed
    ∙ ap (λ so_far. so_far ++ value ∷ []) before
    ∙ append_assoc front (map make (take at items)) (value ∷ [])
    ∙ ap (λ value. front ++ (map make (take at items) ++ value ∷ [])) (made ∙ ap make is)
    ∙ ap (λ more. front ++ more) (sym (map-append make (take at items) (get_or items at part ∷ [])))
    ∙ ap (λ taken. front ++ map make taken) (sym (take_more items at part below))
