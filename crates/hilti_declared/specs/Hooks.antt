-- Hooks with their bodies in the order of running.
use Rattle.std.specs.Prelude.{ℕ, zero, suc, nat_eq, max, List, [], ◌∷◌, ◌++◌, map, filter}
use Rattle.std.specs.Prelude.{Option, Some, None}
use Rattle.hilti_base.specs.declared.names.FnId.{FnId}
use Rattle.hilti_module.specs.declared.types.Number.{Number}
use Rattle.hilti_module.specs.declared.module.Item.{Item}
use Rattle.hilti_module.specs.declared.module.Item.TheVariants as items
use Rattle.hilti_module.specs.declared.module.Module.{Module}
use Rattle.hilti_link.specs.declared.tables.LinkedFunction.{LinkedFunction}
use Rattle.hilti_link.specs.declared.tables.LinkedHook.{LinkedHook}
use Rattle.hilti_parts.specs.declared.parts.Hook.{Hook}
use Rattle.hilti_declared.specs.declared.hooks.HookBody.{HookBody}
use Rattle.hilti_declared.specs.Sites.{item_at}

-- the priority that a body is written with, 0 without one
abbrev pub number_or_zero : Option Number → ℕ
number_or_zero (Some number) = number.value
number_or_zero None = 0

abbrev pub priority_in : Option Item → ℕ
priority_in (Some (items.HookBody name parameters priority body)) = number_or_zero priority
priority_in _ = 0

-- the function of a number, where it is a body of a hook
abbrev pub body_by : List Module → ℕ → LinkedFunction → Option ℕ → List HookBody
body_by modules n f None = []
body_by modules n f (Some hook) = record {
  hook = hook;
  priority = priority_in (item_at modules f.site);
  function = record { n = n };
} ∷ []

abbrev pub body_of : List Module → ℕ → LinkedFunction → List HookBody
body_of modules n f = body_by modules n f f.hook

-- the hook bodies among functions from a number on
unfoldable pub bodies_from : List Module → ℕ → List LinkedFunction → List HookBody
bodies_from modules n [] = []
bodies_from modules n (f ∷ more) = body_of modules n f ++ bodies_from modules (suc n) more

-- all hook bodies in textual order
abbrev pub hook_bodies : List Module → List LinkedFunction → List HookBody
hook_bodies modules functions = bodies_from modules 0 functions

-- the bodies of priorities below a bound: those of a greater priority first, those of one priority
-- as they stood
unfoldable pub by_priority : ℕ → List HookBody → List HookBody
by_priority zero bodies = []
by_priority (suc p) bodies =
    filter (λ (b : HookBody). nat_eq b.priority p) bodies ++ by_priority p bodies

-- a number above all their priorities
unfoldable pub above : List HookBody → ℕ
above [] = 0
above (b ∷ more) = max (suc b.priority) (above more)

-- bodies by falling priority, and then as they stood
abbrev pub in_order : List HookBody → List HookBody
in_order bodies = by_priority (above bodies) bodies

-- the functions of those that are a hook's
abbrev pub functions_of : ℕ → List HookBody → List FnId
functions_of hook bodies =
    map (λ (b : HookBody). b.function) (filter (λ (b : HookBody). nat_eq b.hook hook) bodies)

-- the functions of the bodies of each of so many hooks, from a number on
unfoldable pub lists_from : List HookBody → ℕ → ℕ → List (List FnId)
lists_from bodies n zero = []
lists_from bodies n (suc more) = functions_of n bodies ∷ lists_from bodies (suc n) more

abbrev pub hook_of : List HookBody → ℕ → LinkedHook → Hook
hook_of bodies n h =
    record { name = h.name; params = h.parameters; bodies = functions_of n (in_order bodies) }

-- the hooks from a number on
unfoldable pub hooks_from : List HookBody → ℕ → List LinkedHook → List Hook
hooks_from bodies n [] = []
hooks_from bodies n (h ∷ more) = hook_of bodies n h ∷ hooks_from bodies (suc n) more
