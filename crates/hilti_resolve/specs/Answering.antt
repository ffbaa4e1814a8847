-- Answers against what is told of what is written. Want of memory may come in place of any.
use Rattle.std.specs.Prelude.{◌≡◌, ℕ, Option, Some, None, Result, Ok, Err, IfOk}
use Rattle.hilti_base.specs.declared.names.Place.{Place}
use Rattle.hilti_base.specs.declared.refusal.Refusal.{Refusal}
use Rattle.hilti_base.specs.declared.refusal.Refusal.TheVariants.{At}
use Rattle.hilti_resolve.specs.declared.fault.TypeFault.{TypeFault}
use Rattle.hilti_resolve.specs.declared.fault.TypeFault.TheVariants.{Broken}

-- an answer is what is told
abbrev pub Gives : {A E : Type 0} → Result A E → Result A Place → Type 0
Gives result told = IfOk result (λ value. told ≡ Ok value)

-- a value is this one
abbrev pub Makes : {A E : Type 0} → Result A E → A → Type 0
Makes result told = IfOk result (λ value. value ≡ told)

-- a fault stands at the place that is told
abbrev pub BreaksAs : {A B : Type 0} → Result A TypeFault → Result B Place → Type 0
BreaksAs result told = (place : Place) → result ≡ Err (Broken place) → told ≡ Err place

-- only what isn't refused is answered
abbrev pub Accepts : {A : Type 0} → Result A Refusal → Option Refusal → Type 0
Accepts result refusal = IfOk result (λ value. refusal ≡ None)

-- a refusal has the place and the code that are told
abbrev pub RefusesAs : {A : Type 0} → Result A Refusal → Option Refusal → Type 0
RefusesAs result refusal =
    (place : Place) (code : ℕ) → result ≡ Err (At place code) → refusal ≡ Some (At place code)
