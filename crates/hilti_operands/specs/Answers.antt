-- Answers: a value, or the first refusal with its code and place.
use Rattle.std.specs.Prelude.{◌≡◌, ℕ, Bool, true, false, Result, Ok, Err}
use Rattle.hilti_base.specs.declared.names.Place.{Place}
use Rattle.hilti_base.specs.declared.refusal.Refusal.{Refusal}
use Rattle.hilti_base.specs.declared.refusal.Refusal.TheVariants.{At, NoMemory}

-- an answer stands for what is told, where this is what its value stands for; want of memory may
-- come in place of it
abbrev pub StandsFor : {A B : Type 0} → (A → B) → Result A Refusal → Result B Refusal → Type 0
StandsFor meant (Ok value) told = told ≡ Ok (meant value)
StandsFor meant (Err (At place code)) told = told ≡ Err (At place code)
StandsFor meant (Err NoMemory) told = Unit {0}

-- an answer is what is told
abbrev pub Told : {A : Type 0} → Result A Refusal → Result A Refusal → Type 0
Told = StandsFor (λ value. value)

-- one and then another; the first refusal answers
abbrev pub then_read : {A B : Type 0} → Result A Refusal → (A → Result B Refusal) → Result B Refusal
then_read (Ok value) more = more value
then_read (Err refusal) more = Err refusal

abbrev pub refused : {A : Type 0} → Place → ℕ → Result A Refusal
refused place code = Err (At place code)

-- a value that passes a test, or a refusal
abbrev pub if_passes : {A : Type 0} → Bool → A → Refusal → Result A Refusal
if_passes true value refusal = Ok value
if_passes false value refusal = Err refusal
