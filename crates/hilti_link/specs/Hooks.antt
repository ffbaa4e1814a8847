-- Hook bodies and their hooks.
use Rattle.std.specs.Prelude.{ℕ, suc, List, [], ◌∷◌, ◌++◌, Bool, false, ◌||◌, cond, map, Option}
use Rattle.std.specs.Prelude.{Some, None}
use Rattle.std.specs.List.{slice_get, list_any}
use Rattle.std.specs.Option.{is_some}
use Rattle.hilti_base.specs.declared.names.Place.{Place}
use Rattle.hilti_base.specs.declared.refusal.Refusal.{Refusal}
use Rattle.hilti_base.specs.declared.refusal.Refusal.TheVariants.{At}
use Rattle.hilti_module.specs.declared.module.Module.{Module}
use Rattle.hilti_module.specs.declared.module.Item.{Item}
use Rattle.hilti_module.specs.declared.module.Item.TheVariants as items
use Rattle.hilti_module.specs.declared.module.Parameter.{Parameter}
use Rattle.hilti_module.specs.declared.types.Name.{Name}
use Rattle.hilti_scope.specs.declared.meaning.Meaning.{Meaning}
use Rattle.hilti_scope.specs.declared.meaning.Meaning.TheVariants as means
use Rattle.hilti_scope.specs.Items.{Placed, placed}
use Rattle.hilti_scope.specs.Meanings.{meaning_in}
use Rattle.hilti_resolve.specs.Names.{first_unknown}
use Rattle.hilti_resolve.specs.Written.{Written, says}
use Rattle.hilti_resolve.specs.Same.{all_same}

-- a hook's declaration: its module, its place among all items, and its parameters
pub record Announced : Type 0 where
  pub file : ℕ
  pub here : ℕ
  pub parameters : List Parameter

abbrev pub announced_at : ℕ → Placed → List Announced
announced_at here placed = by_item placed.item
  where
    by_item : Item → List Announced
    by_item (items.Hook name parameters) =
        record { file = placed.file; here = here; parameters = parameters } ∷ []
    by_item _ = []

unfoldable pub announced_from : ℕ → List Placed → List Announced
announced_from here [] = []
announced_from here (next ∷ more) = announced_at here next ++ announced_from (suc here) more

-- all hooks, by their numbers
abbrev pub announced : List Module → List Announced
announced modules = announced_from 0 (placed modules)

-- what the types of parameters say
abbrev pub all_say : (Name → Meaning) → List Parameter → List Written
all_say mean parameters = map (λ parameter. says mean parameter.kind) parameters

-- whether the type of some parameter has a name that means nothing
abbrev pub has_unknown : (Name → Meaning) → List Parameter → Bool
has_unknown mean parameters =
    list_any (λ parameter. is_some (first_unknown mean parameter.kind)) parameters

-- the parameters of a body are the hook's: as many, and their types say the same. They aren't
-- judged where a name in a type of either means nothing.
abbrev pub are_hooks :
    (Name → Meaning) → List Parameter → (Name → Meaning) → List Parameter → Bool
are_hooks mean parameters hook_mean hook_parameters =
    (has_unknown mean parameters || has_unknown hook_mean hook_parameters)
    || all_same (all_say mean parameters) (all_say hook_mean hook_parameters)

-- the names in a hook's types mean what they do where it is declared
abbrev pub hook_means : List Module → Announced → Name → Meaning
hook_means modules hook = meaning_in modules hook.file hook.here []

abbrev pub hook_agrees : List Module → (Name → Meaning) → List Parameter → Option Announced → Bool
hook_agrees modules mean parameters None = false
hook_agrees modules mean parameters (Some hook) =
    are_hooks mean parameters (hook_means modules hook) hook.parameters

-- A body for a name that means nothing is refused with code 21. Where the name is no hook's, or the
-- parameters aren't the hook's, it is refused with code 24. `mean` tells what names mean in the
-- types of the body's parameters, where the parameters and locals hide others; the hook's name is
-- given by what it means without them.
abbrev pub hook_meant :
    List Module → (Name → Meaning) → List Parameter → Place → Meaning → Option Refusal
hook_meant modules mean parameters place means.Nothing = Some (At place 21)
hook_meant modules mean parameters place (means.Hook n) =
    cond (hook_agrees modules mean parameters (slice_get (announced modules) n))
    None (Some (At place 24))
hook_meant modules mean parameters place _ = Some (At place 24)

-- the number of the hook that a name means
abbrev pub hook_number : Meaning → Option ℕ
hook_number (means.Hook n) = Some n
hook_number _ = None
