-- What an item declares, and its first refusal.
use Rattle.std.specs.Prelude.{ℕ, List, [], ◌∷◌, ◌++◌, length, map, ◌||◌, not, Option, Some, None}
use Rattle.std.specs.Option.{option_map, option_or}
use Rattle.hilti_base.specs.declared.refusal.Refusal.{Refusal}
use Rattle.hilti_module.specs.declared.types.Name.{Name}
use Rattle.hilti_module.specs.declared.types.Word.{Word}
use Rattle.hilti_module.specs.declared.types.TypeText.{TypeText}
use Rattle.hilti_module.specs.declared.module.Body.{Body}
use Rattle.hilti_module.specs.declared.module.Item.{Item}
use Rattle.hilti_module.specs.declared.module.Item.TheVariants as items
use Rattle.hilti_module.specs.declared.module.Literal.{Literal}
use Rattle.hilti_module.specs.declared.module.Module.{Module}
use Rattle.hilti_module.specs.declared.module.Parameter.{Parameter}
use Rattle.hilti_module.specs.declared.module.Shape.{Shape}
use Rattle.hilti_module.specs.declared.module.Shape.TheVariants as shapes
use Rattle.hilti_types.specs.declared.declared.Declared.{Declared}
use Rattle.hilti_types.specs.declared.declared.Declared.TheVariants as tabled
use Rattle.hilti_types.specs.declared.value_type.ValueType.{ValueType}
use Rattle.hilti_scope.specs.Meanings.{meaning_in, is_first, is_built_in}
use Rattle.hilti_resolve.specs.Literals.{literal_refusal}
use Rattle.hilti_link.specs.declared.tables.Site.{Site}
use Rattle.hilti_link.specs.declared.tables.Tables.{Tables}
use Rattle.hilti_link.specs.declared.tables.LinkedException.{LinkedException}
use Rattle.hilti_link.specs.declared.tables.LinkedFunction.{LinkedFunction}
use Rattle.hilti_link.specs.declared.tables.LinkedGlobal.{LinkedGlobal}
use Rattle.hilti_link.specs.declared.tables.LinkedHook.{LinkedHook}
use Rattle.hilti_link.specs.declared.typed_words.Role.TheVariants as roles
use Rattle.hilti_link.specs.declared.versions.Version.{Version}
use Rattle.hilti_link.specs.Seeing.{View, refusal_of_type, type_at, again, qualified}
use Rattle.hilti_link.specs.TypedWords.{names_of, words_refusal, kinds_of}
use Rattle.hilti_link.specs.Shapes.{shape_refusal, member_of, overlay_field_of}
use Rattle.hilti_link.specs.Shapes.{parent_of}
use Rattle.hilti_link.specs.Hooks.{hook_meant, hook_number}

-- the modules; the number, the name and the version of the item's module; the item's number in it
-- and among all items; and what the items in front of it declare
pub record Seen : Type 0 where
  pub modules : List Module
  pub file : ℕ
  pub owner : List ℕ
  pub version : Version
  pub at : ℕ
  pub here : ℕ
  pub tables : Tables

-- what is seen there behind these parameters and locals
abbrev pub view_behind : Seen → List (List ℕ) → View
view_behind seen locals =
    record { tables = seen.tables; mean = meaning_in seen.modules seen.file seen.here locals }

abbrev pub view_of : Seen → View
view_of seen = view_behind seen []

-- a declared name is refused where its module declares it before, or it is that of a built-in
-- exception
abbrev pub declared_again : Seen → Word → Option Refusal
declared_again seen word =
    let taken = not (is_first seen.modules seen.file seen.here word.bytes) in
    again (taken || is_built_in word.bytes) word

abbrev pub value_refusal_by : View → ValueType → Option Literal → Option Refusal
value_refusal_by view kind None = None
value_refusal_by view kind (Some literal) = literal_refusal view.tables.types view.mean kind literal

abbrev pub value_refusal : View → TypeText → Option Literal → Option Refusal
value_refusal view kind value = value_refusal_by view (type_at view kind) value

abbrev pub result_refusal : View → Option TypeText → Option Refusal
result_refusal view None = None
result_refusal view (Some kind) = refusal_of_type view kind

-- the parameters and locals of a body, whose names hide others in their types
abbrev pub slots_of : List Parameter → Body → List Parameter
slots_of parameters body = parameters ++ body.locals

abbrev pub slots_view : Seen → List Parameter → View
slots_view seen slots = view_behind seen (names_of slots)

abbrev pub slots_refusal : Seen → List Parameter → Option Refusal
slots_refusal seen slots = words_refusal (slots_view seen slots) roles.Slot slots

-- the first refusal of an item, its parts in textual order
unfoldable pub item_refusal : Seen → Item → Option Refusal
item_refusal seen (items.Type name shape) =
    option_or (declared_again seen name) (shape_refusal (view_of seen) shape)
item_refusal seen (items.Global kind name value) =
    option_or (refusal_of_type (view_of seen) kind)
    (option_or (declared_again seen name) (value_refusal (view_of seen) kind value))
item_refusal seen (items.Hook name parameters) =
    option_or (declared_again seen name) (words_refusal (view_of seen) roles.Slot parameters)
item_refusal seen (items.HookBody name parameters priority body) =
    let slots = slots_of parameters body in
    let inside = meaning_in seen.modules seen.file seen.here (names_of slots) in
    let meaning = meaning_in seen.modules seen.file seen.here [] name in
    option_or (hook_meant seen.modules inside parameters name.first.place meaning)
    (slots_refusal seen slots)
item_refusal seen (items.Function result name parameters body) =
    option_or (result_refusal (view_of seen) result)
    (option_or (declared_again seen name) (slots_refusal seen (slots_of parameters body)))

-- where an item is declared
abbrev pub site_of : Seen → Word → Site
site_of seen word = record { file = seen.file; item = seen.at; place = word.place }

-- a type at the end of the table
abbrev pub with_type : Tables → Site → Declared → Tables
with_type tables site declared =
    record tables {
      types = tables.types ++ declared ∷ [];
      sites = tables.sites ++ site ∷ [];
    }

abbrev pub with_exception : Tables → LinkedException → Tables
with_exception tables exception = record tables { exceptions = tables.exceptions ++ exception ∷ [] }

abbrev pub with_shape : View → Site → List ℕ → Shape → Tables
with_shape view site name (shapes.Struct place fields) =
    with_type view.tables site
    (tabled.Struct name (map (member_of view) fields))
with_shape view site name (shapes.Enum place words) =
    with_type view.tables site (tabled.Enum name (map (λ word. word.bytes) words))
with_shape view site name (shapes.Overlay place fields) =
    with_type view.tables site (tabled.Overlay name (map (overlay_field_of view) fields))
with_shape view site name (shapes.Exception place parent) =
    with_exception view.tables (record { site = site; name = name; parent = parent_of view parent })

-- a name as it is shown where it was written in this module
abbrev pub shown_by : List ℕ → Word → Option Word → List ℕ
shown_by owner first None = qualified owner first.bytes
shown_by owner first (Some second) = qualified first.bytes second.bytes

abbrev pub shown : List ℕ → Name → List ℕ
shown owner name = shown_by owner name.first name.second

abbrev pub with_function : Tables → LinkedFunction → Tables
with_function tables function = record tables { functions = tables.functions ++ function ∷ [] }

abbrev pub function_of :
    Seen → Word → List ℕ → List Parameter → Body → Option ValueType → Option ℕ → LinkedFunction
function_of seen word name parameters body result hook =
    let slots = slots_of parameters body in
    record {
      site = site_of seen word;
      name = name;
      version = seen.version;
      parameters = length parameters;
      slots = kinds_of (slots_view seen slots) slots;
      result = result;
      hook = hook;
    }

abbrev pub with_global : Tables → LinkedGlobal → Tables
with_global tables global = record tables { globals = tables.globals ++ global ∷ [] }

abbrev pub with_hook : Tables → LinkedHook → Tables
with_hook tables hook = record tables { hooks = tables.hooks ++ hook ∷ [] }

-- what is declared behind an item
unfoldable pub tables_behind : Seen → Item → Tables
tables_behind seen (items.Type name shape) =
    with_shape (view_of seen) (site_of seen name) (qualified seen.owner name.bytes) shape
tables_behind seen (items.Global kind name value) =
    with_global seen.tables (record {
      site = site_of seen name;
      name = qualified seen.owner name.bytes;
      kind = type_at (view_of seen) kind;
    })
tables_behind seen (items.Hook name parameters) =
    with_hook seen.tables (record {
      site = site_of seen name;
      name = qualified seen.owner name.bytes;
      parameters = kinds_of (view_of seen) parameters;
    })
tables_behind seen (items.HookBody name parameters priority body) =
    let hook = hook_number (meaning_in seen.modules seen.file seen.here [] name) in
    with_function seen.tables
    (function_of seen name.first (shown seen.owner name) parameters body None hook)
tables_behind seen (items.Function result name parameters body) =
    let returns = option_map (type_at (view_of seen)) result in
    with_function seen.tables
    (function_of seen name (qualified seen.owner name.bytes) parameters body returns None)
