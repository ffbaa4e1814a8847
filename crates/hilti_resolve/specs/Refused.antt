-- The first refusal of a written type.
use Rattle.std.specs.Prelude.{ℕ, nat_lt, Bool, cond, ◌==◌, ◌&&◌, List, Option, Some, None, Result}
use Rattle.std.specs.Prelude.{Ok, Err}
use Rattle.hilti_base.specs.declared.names.Place.{Place}
use Rattle.hilti_base.specs.declared.refusal.Refusal.{Refusal}
use Rattle.hilti_base.specs.declared.refusal.Refusal.TheVariants.{At}
use Rattle.hilti_module.specs.declared.types.Name.{Name}
use Rattle.hilti_module.specs.declared.types.TypeText.{TypeText, out-TypeText}
use Rattle.hilti_module.specs.declared.types.InnerText.{InnerText}
use Rattle.hilti_module.specs.declared.types.Container.{Container}
use Rattle.hilti_module.specs.declared.types.Parametric.{Parametric, out-Parametric}
use Rattle.hilti_module.specs.declared.types.Container.TheOpen.{Parametric-F, TypeText-F}
use Rattle.hilti_types.specs.declared.declared.Declared.{Declared}
use Rattle.hilti_types.specs.declared.value_type.ValueType.{ValueType}
use Rattle.hilti_types.specs.Depths.{depths}
use Rattle.hilti_scope.specs.declared.meaning.Meaning.{Meaning}
use Rattle.hilti_resolve.specs.Names.{first_unknown}
use Rattle.hilti_resolve.specs.Depth.{written_depth}
use Rattle.hilti_resolve.specs.Values.{value_of}

-- the place of the first token of a written type
abbrev pub parametric_begins : Parametric-F Container InnerText Parametric TypeText → Place
parametric_begins (Parametric-F.Int place bits) = place
parametric_begins (Parametric-F.Tuple place parts) = place
parametric_begins (Parametric-F.Iterator place over) = place
parametric_begins (Parametric-F.Ref place to) = place

abbrev pub parametric_start : Parametric → Place
parametric_start parametric = parametric_begins (out-Parametric parametric)

abbrev pub type_begins : TypeText-F Container InnerText Parametric TypeText → Place
type_begins (TypeText-F.Plain place plain) = place
type_begins (TypeText-F.Parametric parametric) = parametric_start parametric
type_begins (TypeText-F.Named name) = name.first.place

abbrev pub start_of : TypeText → Place
start_of text = type_begins (out-TypeText text)

abbrev pub same_place : Place → Place → Bool
same_place a b = a.file == b.file && a.line == b.line && a.column == b.column

-- a type that breaks the rules of types is refused with code 25
abbrev pub broken : Result ValueType Place → Option Refusal
broken (Ok value) = None
broken (Err place) = Some (At place 25)

-- a type with a name that means nothing is refused at the first one with code 21, whether it is
-- broken elsewhere or not
abbrev pub unknown_or_broken : Option Place → Result ValueType Place → Option Refusal
unknown_or_broken (Some place) value = Some (At place 21)
unknown_or_broken None value = broken value

-- a type that nests too deep is refused at its first token with code 26, unless a lesser code is
-- met there
abbrev pub deep_at : Place → Option Refusal → Refusal
deep_at start None = At start 26
deep_at start (Some (At place code)) = cond (same_place place start) (At place code) (At start 26)
deep_at start (Some other) = other

-- the refusal of what is refused
abbrev pub refusal_of : Result ValueType Refusal → Option Refusal
refusal_of (Ok value) = None
refusal_of (Err refusal) = Some refusal

-- the first refusal of a written type, its depth aside
abbrev pub known_refusal : List Declared → (Name → Meaning) → TypeText → Option Refusal
known_refusal table mean text =
    unknown_or_broken (first_unknown mean text) (value_of table mean text)

-- the first refusal of a written type, over the table of the types in front of it
abbrev pub type_refusal : List Declared → (Name → Meaning) → TypeText → Option Refusal
type_refusal table mean text =
    let other = known_refusal table mean text in
    cond (nat_lt 16 (written_depth (depths table) mean text)) (Some (deep_at (start_of text) other))
    other
