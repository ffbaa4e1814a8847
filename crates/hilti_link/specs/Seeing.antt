-- What a name or a written type says where it stands.
use Rattle.std.specs.Prelude.{ℕ, List, [], ◌∷◌, ◌++◌, codes, cond, Bool, Option, Some, None, Result}
use Rattle.std.specs.Prelude.{Ok, Err}
use Rattle.hilti_base.specs.declared.names.Place.{Place}
use Rattle.hilti_base.specs.declared.refusal.Refusal.{Refusal}
use Rattle.hilti_base.specs.declared.refusal.Refusal.TheVariants.{At}
use Rattle.hilti_module.specs.declared.types.Name.{Name}
use Rattle.hilti_module.specs.declared.types.Word.{Word}
use Rattle.hilti_module.specs.declared.types.TypeText.{TypeText}
use Rattle.hilti_types.specs.Depths.{depths}
use Rattle.hilti_types.specs.declared.value_type.ValueType.{ValueType}
use Rattle.hilti_types.specs.declared.value_type.ValueType.TheVariants as types
use Rattle.hilti_scope.specs.declared.meaning.Meaning.{Meaning}
use Rattle.hilti_resolve.specs.Depth.{written_depth}
use Rattle.hilti_resolve.specs.Refused.{type_refusal}
use Rattle.hilti_resolve.specs.Values.{value_of}
use Rattle.hilti_link.specs.declared.tables.Tables.{Tables}

-- what is declared in front, and what names mean
pub record View : Type 0 where
  pub tables : Tables
  pub mean : Name → Meaning

-- the first refusal of a written type
abbrev pub refusal_of_type : View → TypeText → Option Refusal
refusal_of_type view text = type_refusal view.tables.types view.mean text

abbrev pub or_bool : Result ValueType Place → ValueType
or_bool (Ok kind) = kind
or_bool (Err place) = types.Bool

-- the type that a written type stands for, and bool where it stands for none
abbrev pub type_at : View → TypeText → ValueType
type_at view text = or_bool (value_of view.tables.types view.mean text)

-- how deep a written type nests
abbrev pub depth_at : View → TypeText → ℕ
depth_at view text = written_depth (depths view.tables.types) view.mean text

-- a word is refused where it is taken already
abbrev pub again : Bool → Word → Option Refusal
again taken word = cond taken (Some (At word.place 20)) None

-- a word behind those that are taken
abbrev pub taking : List (List ℕ) → Word → List (List ℕ)
taking taken word = taken ++ word.bytes ∷ []

-- a name of a module, as it is shown
abbrev pub qualified : List ℕ → List ℕ → List ℕ
qualified owner name = owner ++ codes "::" ++ name
