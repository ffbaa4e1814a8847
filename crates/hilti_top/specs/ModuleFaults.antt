-- What a refusal of a layer below says of modules.
use Rattle.std.specs.Prelude.{◌≡◌, ℕ, Result, Err}
use Rattle.hilti_base.specs.declared.names.Place.{Place}
use Rattle.hilti_base.specs.declared.refusal.Refusal.{Refusal}
use Rattle.hilti_base.specs.declared.refusal.Refusal.TheVariants as refusals
use Rattle.hilti_top.specs.declared.modules.ModulesFault.{ModulesFault}
use Rattle.hilti_top.specs.declared.modules.ModulesFault.TheVariants as modules

abbrev pub of_refusal : Refusal → ModulesFault
of_refusal (refusals.At place code) = modules.At place code
of_refusal refusals.NoMemory = modules.NoMemory

-- the place and the code are such, where modules are refused
abbrev pub WhereRefused : {T : Type 0} → Result T ModulesFault → (Place → ℕ → Type 0) → Type 0
WhereRefused result is =
    (place : Place) (code : ℕ) → result ≡ Err (modules.At place code) → is place code
