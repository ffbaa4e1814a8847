-- The numbers that items get.
use Rattle.std.specs.Prelude.{ℕ, ◌+◌, ◌<◌, List}
use Rattle.hilti_module.specs.declared.module.Item.{Item}
use Rattle.hilti_module.specs.declared.module.Item.TheVariants as items
use Rattle.hilti_module.specs.declared.module.Shape.{Shape}
use Rattle.hilti_module.specs.declared.module.Shape.TheVariants as shapes
use Rattle.hilti_scope.specs.declared.meaning.Meaning.{Meaning}
use Rattle.hilti_scope.specs.declared.meaning.Meaning.TheVariants as means
use Rattle.hilti_scope.specs.declared.declarations.Numbers.{Numbers}
use Rattle.hilti_scope.specs.Items.{Placed, is_exception, is_tabled, is_global, is_function}
use Rattle.hilti_scope.specs.Items.{is_hook}
use Rattle.hilti_scope.specs.Meanings.{count_items}

-- all of them are below a bound
pub record AreBelow (bound : ℕ) (numbers : Numbers) : Type 0 where
  pub tabled : numbers.tabled < bound
  pub exception : numbers.exception < bound
  pub global : numbers.global < bound
  pub function : numbers.function < bound
  pub hook : numbers.hook < bound

-- what a type declares that gets the next number of its kind
abbrev pub type_with : Numbers → Shape → Meaning
type_with numbers (shapes.Struct place fields) = means.Struct numbers.tabled
type_with numbers (shapes.Enum place words) = means.Enum numbers.tabled
type_with numbers (shapes.Overlay place fields) = means.Overlay numbers.tabled
type_with numbers (shapes.Exception place parent) = means.Exception numbers.exception

-- what an item declares that gets the next number of its kind
abbrev pub meaning_with : Numbers → Item → Meaning
meaning_with numbers (items.Type name shape) = type_with numbers shape
meaning_with numbers (items.Global kind name value) = means.Global numbers.global
meaning_with numbers (items.Hook name parameters) = means.Hook numbers.hook
meaning_with numbers (items.HookBody name parameters priority body) =
    means.Function numbers.function
meaning_with numbers (items.Function result name parameters body) = means.Function numbers.function

-- the next numbers behind a type
abbrev pub numbers_with_type : Numbers → Shape → Numbers
numbers_with_type numbers (shapes.Struct place fields) =
    record numbers { tabled = numbers.tabled + 1 }
numbers_with_type numbers (shapes.Enum place words) = record numbers { tabled = numbers.tabled + 1 }
numbers_with_type numbers (shapes.Overlay place fields) =
    record numbers { tabled = numbers.tabled + 1 }
numbers_with_type numbers (shapes.Exception place parent) =
    record numbers { exception = numbers.exception + 1 }

-- the next numbers behind an item
abbrev pub numbers_with : Numbers → Item → Numbers
numbers_with numbers (items.Type name shape) = numbers_with_type numbers shape
numbers_with numbers (items.Global kind name value) = record numbers { global = numbers.global + 1 }
numbers_with numbers (items.Hook name parameters) = record numbers { hook = numbers.hook + 1 }
numbers_with numbers (items.HookBody name parameters priority body) =
    record numbers { function = numbers.function + 1 }
numbers_with numbers (items.Function result name parameters body) =
    record numbers { function = numbers.function + 1 }

-- the next numbers behind some items
abbrev pub numbers_behind : List Placed → Numbers
numbers_behind before = record {
  tabled = count_items is_tabled before;
  exception = 7 + count_items is_exception before;
  global = count_items is_global before;
  function = count_items is_function before;
  hook = count_items is_hook before;
}
