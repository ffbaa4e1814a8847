-- The first refusal of modules: that of their items, or that of the entries of `Main`.
use Rattle.std.proofs.Common.{◌≡◌, subst, ℕ, List, Option, Some, None, Result, Err}
use Rattle.hilti_base.specs.declared.names.Place.{Place}
use Rattle.hilti_base.specs.declared.refusal.Refusal.{Refusal}
use Rattle.hilti_base.specs.declared.refusal.Refusal.TheVariants.{At}
use Rattle.hilti_module.specs.declared.module.Module.{Module}
use Rattle.hilti_link.specs.Entries.{entries_refusal}
use Rattle.hilti_link.specs.InTurn.{Answers}
use Rattle.hilti_link.specs.Linking.{modules_refusal}
use Rattle.hilti_link.specs.Refusals.{first_refusal}
use Rattle.hilti_link.proofs.Answering.{Refused, answers_or, answers_behind, answers_neither}

pub refused_inside : (e : Refusal) (modules : List Module) → Refused e (modules_refusal modules) → Refused e (first_refusal modules)
unfolding first_refusal
refused_inside e modules refused = answers_or e (modules_refusal modules) (entries_refusal modules) refused

pub refused_entry : (e : Refusal) (modules : List Module) → modules_refusal modules ≡ None → Refused e (entries_refusal modules) → Refused e (first_refusal modules)
unfolding first_refusal
refused_entry e modules none refused = answers_behind e (modules_refusal modules) (entries_refusal modules) none refused

pub accepted : (modules : List Module) → modules_refusal modules ≡ None → entries_refusal modules ≡ None → first_refusal modules ≡ None
unfolding first_refusal
accepted modules none also = answers_neither (modules_refusal modules) (entries_refusal modules) none also

-- an answer tells the refusal by its place and code
pub told_by : {A : Type 0} (result : Result A Refusal) (refusal : Option Refusal) → Answers result refusal → (place : Place) (code : ℕ) → result ≡ Err (At place code)
    → refusal ≡ Some (At place code)
told_by result refusal answers place code is = subst (λ result. Answers result refusal) is answers
