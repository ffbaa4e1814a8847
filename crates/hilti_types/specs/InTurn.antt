-- What is told of declared types in turn, since each names only types declared before it.
use Rattle.std.specs.Prelude.{◌≡◌, ℕ, List, [], ◌∷◌, ◌++◌, Some, slice_get, take}
use Rattle.hilti_types.specs.declared.declared.Declared.{Declared}

-- `known`, and then what `judge` tells of each type over what was told of those before it
unfoldable pub told_after : {A : Type 0} → (List A → Declared → A) → List A → List Declared → List A
told_after judge known [] = known
told_after judge known (next ∷ more) = told_after judge (known ++ judge known next ∷ []) more

-- what `judge` tells of each of the types of a table
abbrev pub told_in_turn : {A : Type 0} → (List A → Declared → A) → List Declared → List A
told_in_turn judge types = told_after judge [] types

-- what `told` tells of the type at a place is what `judge` tells of it over those before
abbrev pub IsToldOver : {A : Type 0} → (List A → Declared → A) → (List Declared → List A) → Type 0
IsToldOver judge told =
    (types : List Declared) (at : ℕ) (declared : Declared) → slice_get types at ≡ Some declared
    → slice_get (told types) at ≡ Some (judge (told (take at types)) declared)
