-- The first module that is named `Main`, and what its entries are refused for.
use Rattle.std.proofs.Common.{◌≡◌, refl, sym, ◌∙◌, ap, ℕ, Bool, true, false, cond, nat_lt, bytes_eq, codes, List, length, position, slice_get, Option, Some, None, arith}
use Rattle.std.specs.List.{find, position_or_len}
use Rattle.std.proofs.lemmas.Bool.Decides.{nat_tests}
use Rattle.std.proofs.lemmas.List.Folds.{find_at}
use Rattle.std.proofs.lemmas.Option.{slice_get_past}
use Rattle.hilti_base.specs.declared.refusal.Refusal.{Refusal}
use Rattle.hilti_base.specs.declared.refusal.Refusal.TheVariants.{At, NoMemory}
use Rattle.hilti_module.specs.declared.module.Module.{Module}
use Rattle.hilti_link.specs.Entries.{main_of, entries_of, entries_refusal, no_packet}
use Rattle.hilti_link.proofs.Answering.{Refused}

-- the first that passes is the one at the first place that passes
found_there : (test : Module → Bool) (modules : List Module) → find test modules ≡ main_of modules (position test modules)
found_there test modules = find_at test modules ∙ by (nat_lt at (length modules)) refl
  where
    at : ℕ
    at = position_or_len test modules

    by : (b : Bool) → nat_lt at (length modules) ≡ b → slice_get modules at ≡ main_of modules (cond {A = Option ℕ} b (Some at) None)
    by true below = refl
    by false past = slice_get_past modules at (grind (arith, nat_tests))

abbrev pub is_main : Module → Bool
is_main m = bytes_eq m.name.bytes (codes "Main")

-- what is refused is told by the module that is found
pub refused_of : (modules : List Module) (found : Option Module) → found ≡ find is_main modules → entries_refusal modules ≡ entries_of found
unfolding entries_refusal
refused_of modules found is = ap entries_of (sym (is ∙ found_there is_main modules))

-- where none is found
pub none_found : (modules : List Module) (error : Refusal) → None ≡ find is_main modules → Some error ≡ no_packet → Refused error (entries_refusal modules)
none_found modules (At place code) none same = refused_of modules None none ∙ sym same
none_found modules NoMemory none same = tt
