-- What the parts of a list stand for, or the first fault, found one after another.
use Rattle.std.proofs.Common.{◌≡◌, refl, sym, ◌∙◌, ap, ℕ, ◌+◌, ◌<◌, ◌≤◌, List, [], ◌∷◌, ◌++◌, length, map, drop, get_or, Result, Ok, Err, append_assoc, append-nil}
use Rattle.std.proofs.lemmas.List.{at_drop_more, at_drop_all}
use Rattle.hilti_base.specs.declared.names.Place.{Place}
use Rattle.hilti_types.specs.declared.value_type.ValueType.{ValueType}
use Rattle.hilti_resolve.specs.Values.{Read, all_of, behind, in_front}

-- what is found so far, and what is left
abbrev pub ahead : List ValueType → Result (List ValueType) Place → Result (List ValueType) Place
ahead values (Err place) = Err place
ahead values (Ok more) = Ok (values ++ more)

ahead_none : (rest : Result (List ValueType) Place) → ahead [] rest ≡ rest
ahead_none (Err place) = refl
ahead_none (Ok more) = refl

ahead_one : (values : List ValueType) (value : ValueType) (rest : Result (List ValueType) Place)
    → ahead values (behind value rest) ≡ ahead (values ++ value ∷ []) rest
ahead_one values value (Err place) = refl
ahead_one values value (Ok more) = ap Ok (sym (append_assoc values (value ∷ []) more))

module _ {X : Type 0} (told : X → Read ValueType) where
  abbrev pub all_told : List X → Result (List ValueType) Place
  all_told parts = all_of (map told parts)

  none_left : all_told [] ≡ Ok []
  unfolding all_of
  none_left = refl

  with_value : (first : Read ValueType) (rest : List (Read ValueType)) (value : ValueType) → first.stands ≡ Ok value
      → all_of (first ∷ rest) ≡ behind value (all_of rest)
  unfolding all_of
  with_value first rest value is = ap (λ stands. in_front stands (all_of rest)) is

  with_fault : (first : Read ValueType) (rest : List (Read ValueType)) (place : Place) → first.stands ≡ Err place
      → all_of (first ∷ rest) ≡ Err place
  unfolding all_of
  with_fault first rest place is = ap (λ stands. in_front stands (all_of rest)) is

  here : (items : List X) (at : ℕ) (part : X) → at < length items → part ≡ get_or items at part
      → all_told (drop at items) ≡ all_of (told part ∷ map told (drop (at + 1) items))
  here items at part below is =
      at_drop_more all_told items at part below
      ∙ ap (λ part. all_told (part ∷ drop (at + 1) items)) (sym is)

  -- before the first part
  pub together_first : (all items : List X) → items ≡ all → ahead [] (all_told (drop 0 items)) ≡ all_told all
  together_first all items same = ahead_none (all_told items) ∙ ap all_told same

  -- this part stands for a type
  pub together_more : (all : Result (List ValueType) Place) (values : List ValueType) (items : List X) (at : ℕ) (part : X) (value : ValueType)
      → at < length items → part ≡ get_or items at part → ahead values (all_told (drop at items)) ≡ all → (told part).stands ≡ Ok value
      → ahead (values ++ value ∷ []) (all_told (drop (at + 1) items)) ≡ all
  together_more all values items at part value below is so_far stands =
      sym (ahead_one values value (all_told (drop (at + 1) items)))
      ∙ sym (ap (ahead values) (here items at part below is ∙ with_value (told part) (map told (drop (at + 1) items)) value stands))
      ∙ so_far

  -- this part has a fault
  pub together_fails : (all : Result (List ValueType) Place) (values : List ValueType) (items : List X) (at : ℕ) (part : X) (place : Place)
      → at < length items → part ≡ get_or items at part → ahead values (all_told (drop at items)) ≡ all → (told part).stands ≡ Err place
      → all ≡ Err place
  together_fails all values items at part place below is so_far fault =
      sym so_far
      ∙ ap (ahead values) (here items at part below is ∙ with_fault (told part) (map told (drop (at + 1) items)) place fault)

  -- past the last part
  pub together_at_end : (all : Result (List ValueType) Place) (values : List ValueType) (items : List X) (at : ℕ)
      → length items ≤ at → ahead values (all_told (drop at items)) ≡ all → all ≡ Ok values
  together_at_end all values items at past so_far =
      sym so_far ∙ ap (ahead values) (at_drop_all all_told items at past ∙ none_left) ∙ ap Ok (append-nil values)
