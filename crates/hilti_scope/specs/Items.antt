-- The items of a set of modules in textual order, and what they declare.
use Rattle.std.specs.Prelude.{ℕ, suc, nat_eq, Bool, true, false, ◌&&◌, List, [], ◌∷◌, ◌++◌, map}
use Rattle.std.specs.Prelude.{bytes_eq, Option, Some, None}
use Rattle.std.specs.List.{position}
use Rattle.hilti_module.specs.declared.types.Word.{Word}
use Rattle.hilti_module.specs.declared.module.Module.{Module}
use Rattle.hilti_module.specs.declared.module.Item.{Item}
use Rattle.hilti_module.specs.declared.module.Item.TheVariants as items
use Rattle.hilti_module.specs.declared.module.Shape.TheVariants as shapes

-- an item with the number of its module
pub record Placed : Type 0 where
  pub file : ℕ
  pub item : Item

abbrev pub placed_in : ℕ → List Item → List Placed
placed_in file inside = map (λ item. record { file = file; item = item }) inside

unfoldable pub placed_from : ℕ → List Module → List Placed
placed_from file [] = []
placed_from file (m ∷ more) = placed_in file m.items ++ placed_from (suc file) more

-- the items of all modules in textual order; a place in this list names an item
abbrev pub placed : List Module → List Placed
placed modules = placed_from 0 modules

-- the name that an item declares in its module
abbrev pub declared_word : Item → Option Word
declared_word (items.Type name shape) = Some name
declared_word (items.Global kind name value) = Some name
declared_word (items.Hook name parameters) = Some name
declared_word (items.HookBody name parameters priority body) = None
declared_word (items.Function result name parameters body) = Some name

abbrev pub is_word : List ℕ → Option Word → Bool
is_word bytes None = false
is_word bytes (Some word) = bytes_eq word.bytes bytes

-- whether an item declares this name in this module
abbrev pub declares : ℕ → List ℕ → Placed → Bool
declares file bytes placed = nat_eq placed.file file && is_word bytes (declared_word placed.item)

-- the place of the first declaration of a name in a module
abbrev pub declaration : List Module → ℕ → List ℕ → Option ℕ
declaration modules file bytes = position (declares file bytes) (placed modules)

-- the number of the first module of a name
abbrev pub module_named : List Module → List ℕ → Option ℕ
module_named modules bytes = position (λ m. bytes_eq m.name.bytes bytes) modules

-- what is numbered together: exceptions, other types, globals, functions with hook bodies, hooks
abbrev pub is_exception : Item → Bool
is_exception (items.Type name (shapes.Exception place parent)) = true
is_exception _ = false

abbrev pub is_tabled : Item → Bool
is_tabled (items.Type name (shapes.Struct place fields)) = true
is_tabled (items.Type name (shapes.Enum place words)) = true
is_tabled (items.Type name (shapes.Overlay place fields)) = true
is_tabled _ = false

abbrev pub is_global : Item → Bool
is_global (items.Global kind name value) = true
is_global _ = false

abbrev pub is_function : Item → Bool
is_function (items.HookBody name parameters priority body) = true
is_function (items.Function result name parameters body) = true
is_function _ = false

abbrev pub is_hook : Item → Bool
is_hook (items.Hook name parameters) = true
is_hook _ = false
