-- Globals with the values that they begin with.
use Rattle.std.specs.Prelude.{◌≡◌, List, Option, Some, None}
use Rattle.hilti_module.specs.declared.types.Name.{Name}
use Rattle.hilti_module.specs.declared.module.Item.{Item}
use Rattle.hilti_module.specs.declared.module.Item.TheVariants as items
use Rattle.hilti_module.specs.declared.module.Literal.{Literal}
use Rattle.hilti_module.specs.declared.module.Module.{Module}
use Rattle.hilti_types.specs.declared.declared.Declared.{Declared}
use Rattle.hilti_types.specs.declared.value_type.ValueType.{ValueType}
use Rattle.hilti_tree.specs.declared.tree.Tree.{Tree}
use Rattle.hilti_scope.specs.declared.meaning.Meaning.{Meaning}
use Rattle.hilti_resolve.specs.Literals.{literal_refusal}
use Rattle.hilti_resolve.specs.LiteralValues.{literal_value}
use Rattle.hilti_link.specs.declared.tables.LinkedGlobal.{LinkedGlobal}
use Rattle.hilti_link.specs.declared.tables.Site.{Site}
use Rattle.hilti_parts.specs.declared.parts.Global.{Global}
use Rattle.hilti_typing.specs.Defaults.{default_of}
use Rattle.hilti_declared.specs.Sites.{item_at, meaning_at}

-- the literal that a global is written with
abbrev pub literal_in : Option Item → Option Literal
literal_in (Some (items.Global kind name value)) = value
literal_in _ = None

abbrev pub literal_at : List Module → Site → Option Literal
literal_at modules site = literal_in (item_at modules site)

-- the value of the literal, and without one the default of the type
abbrev pub value_by : List Declared → (Name → Meaning) → ValueType → Option Literal → Tree
value_by table mean kind (Some literal) = literal_value table mean literal
value_by table mean kind None = default_of kind

-- the value that a global begins with
abbrev pub first_value : List Module → List Declared → LinkedGlobal → Tree
first_value modules table g =
    value_by table (meaning_at modules g.site) g.kind (literal_at modules g.site)

abbrev pub global_of : List Module → List Declared → LinkedGlobal → Global
global_of modules table g =
    record { name = g.name; kind = g.kind; first = first_value modules table g }

-- the literal that a global is written with is of its type
abbrev pub accepts_by : List Declared → (Name → Meaning) → ValueType → Option Literal → Type 0
accepts_by table mean kind (Some literal) = literal_refusal table mean kind literal ≡ None
accepts_by table mean kind None = Unit {0}

abbrev pub IsAccepted : List Module → List Declared → LinkedGlobal → Type 0
IsAccepted modules table g =
    accepts_by table (meaning_at modules g.site) g.kind (literal_at modules g.site)
