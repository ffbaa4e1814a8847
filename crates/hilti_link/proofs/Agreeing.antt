-- Whether the things of two lists are written the same, found one after another.
use Rattle.std.proofs.Common.{◌≡◌, refl, sym, ◌∙◌, ap, ℕ, suc, ◌+◌, ◌<◌, ◌≤◌, Bool, true, false, ◌&&◌, ◌≢◌, List, [], ◌∷◌, length, map, drop, get_or}
use Rattle.std.proofs.lemmas.List.{at_drop_more, at_drop_all}
use Rattle.hilti_resolve.specs.Written.{Written}
use Rattle.hilti_resolve.specs.Same.{written_eq, all_same}

module _ {X : Type 0} (f g : X → Written) where
  abbrev pub agree : List X → List X → Bool
  agree left right = all_same (map f left) (map g right)

  one_further : (a b : X) (left right : List X) → agree (a ∷ left) (b ∷ right) ≡ (written_eq (f a) (g b) && agree left right)
  unfolding all_same
  one_further a b left right = refl

  none_left : agree [] [] ≡ true
  unfolding all_same
  none_left = refl

  -- lists that aren't as long
  pub agree_apart : (left right : List X) → length left ≢ length right → false ≡ agree left right
  unfolding all_same
  agree_apart [] [] apart = absurd (apart refl)
  agree_apart [] (b ∷ right) apart = refl
  agree_apart (a ∷ left) [] apart = refl
  agree_apart (a ∷ left) (b ∷ right) apart = by (written_eq (f a) (g b)) (agree_apart left right (λ same. apart (ap suc same)))
    where
      by : {rest : Bool} (first : Bool) → false ≡ rest → false ≡ (first && rest)
      by true none = none
      by false none = refl

  here : (left right : List X) (at : ℕ) (a b : X) → at < length left → at < length right
      → agree (drop at left) (drop at right) ≡ (written_eq (f (get_or left at a)) (g (get_or right at b)) && agree (drop (at + 1) left) (drop (at + 1) right))
  here left right at a b below under =
      at_drop_more (λ left. agree left (drop at right)) left at a below
      ∙ at_drop_more (agree (get_or left at a ∷ drop (at + 1) left)) right at b under
      ∙ one_further (get_or left at a) (get_or right at b) (drop (at + 1) left) (drop (at + 1) right)

  -- these two are the same
  pub agree_more : (all : Bool) (left right : List X) (at : ℕ) (a b : X) → at < length left → at < length right
      → agree (drop at left) (drop at right) ≡ all → true ≡ written_eq (f (get_or left at a)) (g (get_or right at b)) → agree (drop (at + 1) left) (drop (at + 1) right) ≡ all
  agree_more all left right at a b below under so_far same =
      sym (here left right at a b below under ∙ ap (λ first. first && agree (drop (at + 1) left) (drop (at + 1) right)) (sym same)) ∙ so_far

  -- these two aren't
  pub agree_stops : (all : Bool) (left right : List X) (at : ℕ) (a b : X) → at < length left → at < length right
      → agree (drop at left) (drop at right) ≡ all → false ≡ written_eq (f (get_or left at a)) (g (get_or right at b)) → false ≡ all
  agree_stops all left right at a b below under so_far other =
      sym (here left right at a b below under ∙ ap (λ first. first && agree (drop (at + 1) left) (drop (at + 1) right)) (sym other)) ∙ so_far

  -- none is left
  pub agree_end : (all : Bool) (left right : List X) (at : ℕ) → length left ≤ at → length right ≤ at → agree (drop at left) (drop at right) ≡ all → true ≡ all
  agree_end all left right at past beyond so_far =
      sym none_left ∙ sym (at_drop_all (λ left. agree left []) left at past) ∙ sym (at_drop_all (agree (drop at left)) right at beyond) ∙ so_far
