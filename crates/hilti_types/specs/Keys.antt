-- Which types are key types.
use Rattle.std.specs.Prelude.{Bool, true, false, List, Option, Some}
use Rattle.std.specs.Bool.{IsTrue}
use Rattle.std.specs.List.{list_all, slice_get}
use Rattle.hilti_types.specs.declared.declared.Declared.{Declared}
use Rattle.hilti_types.specs.declared.value_type.ValueType.{ValueType}
use Rattle.hilti_types.specs.declared.value_type.Inner.TheOpen.{Inner-F, ValueType-F}
use Rattle.hilti_types.specs.declared.value_type.Inner.TheFolds.{fold-ValueType}

-- whether a declared type is an enum
abbrev pub is_enum : Option Declared → Bool
is_enum (Some (Declared.Enum name words)) = true
is_enum _ = false

-- a type whose values have an order and a hash: a scalar, an enum, and a tuple of nothing but key
-- types
abbrev pub key_step : List Declared → ValueType-F Bool Bool → Bool
key_step types (ValueType-F.Enum n) = is_enum (slice_get types n)
key_step types (ValueType-F.Tuple parts) = list_all (λ is_key. is_key) parts
key_step types ValueType-F.Callable = false
key_step types (ValueType-F.Iter over) = false
key_step types (ValueType-F.Ref to) = false
key_step types _ = true

-- nothing asks whether the type of an object is a key type
abbrev pub no_key : Inner-F Bool Bool → Bool
no_key _ = false

abbrev pub key_over : List Declared → ValueType → Bool
key_over types = fold-ValueType Bool Bool no_key (key_step types)

abbrev pub IsKey : List Declared → ValueType → Type 0
IsKey types t = IsTrue (key_over types t)
