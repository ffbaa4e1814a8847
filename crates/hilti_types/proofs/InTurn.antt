-- What is told in turn of declared types, at a place of the table.
use Rattle.std.proofs.Common.{◌≡◌, sym, ◌∙◌, ap, refl, ℕ, zero, suc, ◌+◌, ◌<◌, List, [], ◌∷◌, ◌++◌, length, take, get_or, Some, arith}
use Rattle.std.specs.List.{slice_get}
use Rattle.std.proofs.lemmas.Option.{slice_get_within, slice_get-get_or}
use Rattle.std.proofs.lemmas.List.{length-append}
use Rattle.std.proofs.lemmas.List.{get_or_append_left}
use Rattle.std.proofs.Math.Seq.{get_or-append_seam}
use Rattle.hilti_types.specs.InTurn.{told_after, told_in_turn}
use Rattle.hilti_types.specs.declared.declared.Declared.{Declared}

module _ {A : Type 0} (judge : List A → Declared → A) where
  -- one is told of each declared type
  pub length_told_after : (known : List A) (types : List Declared)
      → length (told_after judge known types) ≡ length known + length types
  unfolding told_after
  length_told_after known [] = omega arith
  length_told_after known (next ∷ more) =
      omega (arith, length_told_after (known ++ judge known next ∷ []) more, length-append known (judge known next ∷ []))

  -- what is known already stays
  pub known_stays : (known : List A) (types : List Declared) (at : ℕ) (told : A) → at < length known
      → get_or (told_after judge known types) at told ≡ get_or known at told
  unfolding told_after
  known_stays known [] at told below = refl
  known_stays known (next ∷ more) at told below =
      let one = judge known next ∷ [] in
      let longer : at < length (known ++ one) = omega (arith, length-append known one) in
      known_stays (known ++ one) more at told longer ∙ get_or_append_left known one told at below

  -- what is told of the type at a place, over what is told of those before
  pub told_at_place : (known : List A) (types : List Declared) (at : ℕ) (declared : Declared) (other : A)
      → slice_get types at ≡ Some declared
      → get_or (told_after judge known types) (length known + at) other
      ≡ judge (told_after judge known (take at types)) declared
  unfolding told_after
  told_at_place known [] at declared other is = cc
  told_at_place known (next ∷ more) zero declared other is =
      let one = judge known next ∷ [] in
      let here : length known < length (known ++ one) = omega (arith, length-append known one) in
      let same : next ≡ declared = cc in
      ap (λ at. get_or (told_after judge (known ++ one) more) at other) (omega arith)
      ∙ known_stays (known ++ one) more (length known) other here
      ∙ get_or-append_seam known (judge known next) [] other
      ∙ ap (judge known) same
  told_at_place known (next ∷ more) (suc at) declared other is =
      let one = judge known next ∷ [] in
      let place : length known + suc at ≡ length (known ++ one) + at = omega (arith, length-append known one) in
      ap (λ at. get_or (told_after judge (known ++ one) more) at other) place
      ∙ told_at_place (known ++ one) more at declared other is

  pub told_at : (types : List Declared) (at : ℕ) (declared : Declared) → slice_get types at ≡ Some declared
      → slice_get (told_in_turn judge types) at ≡ Some (judge (told_in_turn judge (take at types)) declared)
  told_at types at declared is =
      let told = told_in_turn judge types in
      let other = judge (told_in_turn judge (take at types)) declared in
      let place : 0 + at ≡ at = omega arith in
      let within : at < length told = omega (arith, length_told_after [] types, slice_get_within types at declared is) in
      slice_get-get_or told at other within
      ∙ ap Some (ap (λ at. get_or told at other) (sym place) ∙ told_at_place [] types at declared other is)

  -- nothing is told of no type
  pub none_told : told_in_turn judge [] ≡ []
  unfolding told_after
  none_told = refl

  told_after_one_more : (known : List A) (types : List Declared) (item : Declared)
      → told_after judge known (types ++ item ∷ [])
      ≡ told_after judge known types ++ judge (told_after judge known types) item ∷ []
  unfolding told_after
  told_after_one_more known [] item = refl
  told_after_one_more known (next ∷ more) item = told_after_one_more (known ++ judge known next ∷ []) more item

  -- what is told of one type more is told over what is told of those before
  pub told_one_more : (types : List Declared) (item : Declared)
      → told_in_turn judge (types ++ item ∷ [])
      ≡ told_in_turn judge types ++ judge (told_in_turn judge types) item ∷ []
  told_one_more types item = told_after_one_more [] types item
