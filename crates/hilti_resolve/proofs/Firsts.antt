-- The first that is told of the parts of a list, found one after another.
use Rattle.std.proofs.Common.{◌≡◌, refl, sym, ◌∙◌, ap, ℕ, ◌+◌, ◌<◌, ◌≤◌, List, [], ◌∷◌, length, map, drop, get_or, Option, Some, None}
use Rattle.std.specs.Option.{option_or}
use Rattle.std.proofs.lemmas.List.{at_drop_more, at_drop_all}
use Rattle.hilti_resolve.specs.Names.{first_of}

module _ {X A : Type 0} (told : X → Option A) where
  -- the first that is told of some parts
  abbrev pub first_told : List X → Option A
  first_told parts = first_of (map told parts)

  one_further : (part : X) (more : List X) → first_told (part ∷ more) ≡ option_or (told part) (first_told more)
  unfolding first_of
  one_further part more = refl

  none_left : first_told [] ≡ None
  unfolding first_of
  none_left = refl

  here : (items : List X) (at : ℕ) (part : X) → at < length items → part ≡ get_or items at part
      → first_told (drop at items) ≡ option_or (told part) (first_told (drop (at + 1) items))
  here items at part below is =
      at_drop_more first_told items at part below
      ∙ ap (λ part. first_told (part ∷ drop (at + 1) items)) (sym is)
      ∙ one_further part (drop (at + 1) items)

  -- nothing is told of this part
  pub first_more : (all : Option A) (items : List X) (at : ℕ) (part : X) → at < length items → part ≡ get_or items at part
      → first_told (drop at items) ≡ all → told part ≡ None → first_told (drop (at + 1) items) ≡ all
  first_more all items at part below is so_far none =
      sym (here items at part below is ∙ ap (λ told. option_or told (first_told (drop (at + 1) items))) none) ∙ so_far

  -- something is told of this part
  pub first_here : (all : Option A) (items : List X) (at : ℕ) (part : X) (found : A) → at < length items → part ≡ get_or items at part
      → first_told (drop at items) ≡ all → told part ≡ Some found → all ≡ Some found
  first_here all items at part found below is so_far some =
      sym so_far ∙ here items at part below is ∙ ap (λ told. option_or told (first_told (drop (at + 1) items))) some

  -- nothing is told of any part
  pub first_at_end : (all : Option A) (items : List X) (at : ℕ) → length items ≤ at → first_told (drop at items) ≡ all
      → all ≡ None
  first_at_end all items at past so_far = sym so_far ∙ at_drop_all first_told items at past ∙ none_left
