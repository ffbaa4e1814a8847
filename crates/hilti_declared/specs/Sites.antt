-- Where things are declared.
use Rattle.std.specs.Prelude.{ℕ, ◌+◌, List, [], length, take, slice_get, Option, Some, None}
use Rattle.std.specs.Option.{option_and_then}
use Rattle.hilti_module.specs.declared.types.Name.{Name}
use Rattle.hilti_module.specs.declared.module.Body.{Body}
use Rattle.hilti_module.specs.declared.module.Item.{Item}
use Rattle.hilti_module.specs.declared.module.Item.TheVariants as items
use Rattle.hilti_module.specs.declared.module.Module.{Module}
use Rattle.hilti_module.specs.declared.module.Parameter.{Parameter}
use Rattle.hilti_scope.specs.declared.meaning.Meaning.{Meaning}
use Rattle.hilti_scope.specs.Items.{placed}
use Rattle.hilti_scope.specs.Meanings.{meaning_in}
use Rattle.hilti_link.specs.declared.tables.Site.{Site}

-- the item at a site
abbrev pub item_at : List Module → Site → Option Item
item_at modules site =
    option_and_then (λ (m : Module). slice_get m.items site.item) (slice_get modules site.file)

-- what has a body: a function or a hook body, with its parameters
pub record Bodied : Type 0 where
  pub parameters : List Parameter
  pub body : Body

abbrev pub bodied : Option Item → Option Bodied
bodied (Some (items.Function result name parameters body)) =
    Some (record { parameters = parameters; body = body })
bodied (Some (items.HookBody name parameters priority body)) =
    Some (record { parameters = parameters; body = body })
bodied _ = None

abbrev pub bodied_at : List Module → Site → Option Bodied
bodied_at modules site = bodied (item_at modules site)

-- the number of the item at a site among the items of all modules
abbrev pub number_at : List Module → Site → ℕ
number_at modules site = length (placed (take site.file modules)) + site.item

-- what names mean in the item at a site, its parameters and locals aside
abbrev pub meaning_at : List Module → Site → Name → Meaning
meaning_at modules site = meaning_in modules site.file (number_at modules site) []
