-- The first refusal of some things that are judged in turn, each over what is known behind those in
-- front of it.
use Rattle.std.specs.Prelude.{◌≡◌, List, [], ◌∷◌, Option, Some, None, Result, Ok, Err}
use Rattle.std.specs.Option.{option_or}
use Rattle.hilti_base.specs.declared.refusal.Refusal.{Refusal}
use Rattle.hilti_base.specs.declared.refusal.Refusal.TheVariants.{At, NoMemory}

-- what is known behind all of them
unfoldable pub behind_all : {S X : Type 0} → (S → X → S) → S → List X → S
behind_all behind known [] = known
behind_all behind known (next ∷ more) = behind_all behind (behind known next) more

-- the first refusal
unfoldable pub first_in_turn :
    {S X : Type 0} → (S → X → Option Refusal) → (S → X → S) → S → List X → Option Refusal
first_in_turn judge behind known [] = None
first_in_turn judge behind known (next ∷ more) =
    option_or (judge known next) (first_in_turn judge behind (behind known next) more)

-- an answer is a refusal exactly where there is one, and then that one; want of memory may come in
-- place of either
abbrev pub Answers : {A : Type 0} → Result A Refusal → Option Refusal → Type 0
Answers (Ok value) refusal = refusal ≡ None
Answers (Err (At place code)) refusal = refusal ≡ Some (At place code)
Answers (Err NoMemory) refusal = Unit {0}
