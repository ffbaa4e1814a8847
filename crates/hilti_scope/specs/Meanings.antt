-- What a name means where it stands.
use Rattle.std.specs.Prelude.{ℕ, ◌+◌, nat_eq, nat_le, Bool, true, false, ◌&&◌, cond, List, [], ◌∷◌}
use Rattle.std.specs.Prelude.{take, codes, bytes_eq, count_by, Option, Some, None}
use Rattle.std.specs.List.{position, slice_get, list_any}
use Rattle.std.specs.Option.{option_map, unwrap_or}
use Rattle.hilti_module.specs.declared.types.Name.{Name}
use Rattle.hilti_module.specs.declared.types.Word.{Word}
use Rattle.hilti_module.specs.declared.module.Module.{Module}
use Rattle.hilti_module.specs.declared.module.Item.{Item}
use Rattle.hilti_module.specs.declared.module.Item.TheVariants as items
use Rattle.hilti_module.specs.declared.module.Shape.{Shape}
use Rattle.hilti_module.specs.declared.module.Shape.TheVariants as shapes
use Rattle.hilti_scope.specs.declared.meaning.Meaning.{Meaning}
use Rattle.hilti_scope.specs.declared.meaning.Meaning.TheVariants as means
use Rattle.hilti_scope.specs.Items.{Placed, placed, declaration, module_named, is_exception}
use Rattle.hilti_scope.specs.Items.{is_tabled, is_global, is_function, is_hook}

-- how many of some items pass
abbrev pub count_items : (Item → Bool) → List Placed → ℕ
count_items test all = count_by (λ placed. test placed.item) all

-- what an item declares, behind those items
abbrev pub declared_type : List Placed → Shape → Meaning
declared_type before (shapes.Struct place fields) = means.Struct (count_items is_tabled before)
declared_type before (shapes.Enum place words) = means.Enum (count_items is_tabled before)
declared_type before (shapes.Overlay place fields) = means.Overlay (count_items is_tabled before)
declared_type before (shapes.Exception place parent) =
    means.Exception (7 + count_items is_exception before)

abbrev pub declared_behind : List Placed → Item → Meaning
declared_behind before (items.Type name shape) = declared_type before shape
declared_behind before (items.Global kind name value) = means.Global (count_items is_global before)
declared_behind before (items.Hook name parameters) = means.Hook (count_items is_hook before)
declared_behind before (items.HookBody name parameters priority body) =
    means.Function (count_items is_function before)
declared_behind before (items.Function result name parameters body) =
    means.Function (count_items is_function before)

-- what the item at a place declares
abbrev pub declared_at : List Module → ℕ → Option Meaning
declared_at modules at =
    option_map (λ found. declared_behind (take at (placed modules)) found.item)
    (slice_get (placed modules) at)

abbrev pub is_type : Meaning → Bool
is_type (means.Struct n) = true
is_type (means.Enum n) = true
is_type (means.Overlay n) = true
is_type (means.Exception n) = true
is_type _ = false

-- seen from an item, a type that is declared there or later means nothing
abbrev pub seen_from : ℕ → ℕ → Meaning → Meaning
seen_from here at meaning = cond (is_type meaning && nat_le here at) means.Nothing meaning

abbrev pub declared_there : List Module → ℕ → Option ℕ → Option Meaning
declared_there modules here None = None
declared_there modules here (Some at) = option_map (seen_from here at) (declared_at modules at)

-- what the declaration of a name in a module means, seen from the item at `here`
abbrev pub declared_in : List Module → ℕ → ℕ → List ℕ → Option Meaning
declared_in modules here file bytes = declared_there modules here (declaration modules file bytes)

-- the built-in exceptions, by their numbers
abbrev pub built_in_names : List (List ℕ)
built_in_names =
    codes "Exception" ∷ codes "ValueError" ∷ codes "IndexError" ∷ codes "DivisionByZero"
    ∷ codes "NullReference" ∷ codes "UnsetField" ∷ codes "StaleIterator" ∷ []

abbrev pub is_among : List (List ℕ) → List ℕ → Bool
is_among words bytes = list_any (λ word. bytes_eq word bytes) words

abbrev pub is_built_in : List ℕ → Bool
is_built_in bytes = is_among built_in_names bytes

abbrev pub exception_or_nothing : Option ℕ → Meaning
exception_or_nothing None = means.Nothing
exception_or_nothing (Some n) = means.Exception n

abbrev pub built_in : List ℕ → Meaning
built_in bytes = exception_or_nothing (position (λ word. bytes_eq word bytes) built_in_names)

-- the number of the parameter or local of a name: that of the first that has it
abbrev pub slot_of : List (List ℕ) → List ℕ → Option ℕ
slot_of locals bytes = position (λ word. bytes_eq word bytes) locals

abbrev pub local_or : Option ℕ → Meaning → Meaning
local_or None other = other
local_or (Some slot) other = means.Local slot

-- a name without `::` is a local, or a declaration of its own module, or a built-in exception
abbrev pub plain_meaning : List Module → ℕ → ℕ → List (List ℕ) → List ℕ → Meaning
plain_meaning modules file here locals bytes =
    local_or (slot_of locals bytes) (unwrap_or (declared_in modules here file bytes)
    (built_in bytes))

abbrev pub meaning_in_module : List Module → ℕ → Option ℕ → List ℕ → Meaning
meaning_in_module modules here None bytes = means.Nothing
meaning_in_module modules here (Some file) bytes =
    unwrap_or (declared_in modules here file bytes) means.Nothing

abbrev pub meaning_by : List Module → ℕ → ℕ → List (List ℕ) → Word → Option Word → Meaning
meaning_by modules file here locals first None = plain_meaning modules file here locals first.bytes
meaning_by modules file here locals first (Some second) =
    meaning_in_module modules here (module_named modules first.bytes) second.bytes

-- what a name means in the item at `here` of the module `file`, where these parameters and locals
-- stand
unfoldable pub meaning_in : List Module → ℕ → ℕ → List (List ℕ) → Name → Meaning
meaning_in modules file here locals name =
    meaning_by modules file here locals name.first name.second

-- whether the item at `here` is the first of its module that declares the name
abbrev pub is_first : List Module → ℕ → ℕ → List ℕ → Bool
is_first modules file here bytes = is_here (declaration modules file bytes)
  where
    is_here : Option ℕ → Bool
    is_here None = false
    is_here (Some at) = nat_eq at here
