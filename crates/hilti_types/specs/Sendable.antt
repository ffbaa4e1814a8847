-- Which types are sendable: their values may go to another thread.
use Rattle.std.specs.Prelude.{Bool, true, false, ◌&&◌, List}
use Rattle.std.specs.Bool.{IsTrue}
use Rattle.std.specs.List.{list_all, slice_get}
use Rattle.std.specs.Option.{unwrap_or}
use Rattle.hilti_types.specs.InTurn.{told_in_turn}
use Rattle.hilti_types.specs.declared.declared.Declared.{Declared}
use Rattle.hilti_types.specs.declared.declared.Member.{Member}
use Rattle.hilti_types.specs.declared.value_type.Inner.{Inner}
use Rattle.hilti_types.specs.declared.value_type.ValueType.{ValueType}
use Rattle.hilti_types.specs.declared.value_type.Inner.TheOpen.{Inner-F, ValueType-F}
use Rattle.hilti_types.specs.declared.value_type.Inner.TheFolds.{fold-Inner, fold-ValueType}

-- an object may be sent where all its parts may be, but timers and their managers may not;
-- `declared` tells of each declared type whether it is sendable
abbrev pub object_sendable_step : List Bool → Inner-F Bool Bool → Bool
object_sendable_step declared Inner-F.Timer = false
object_sendable_step declared Inner-F.Manager = false
object_sendable_step declared (Inner-F.Struct n) = unwrap_or (slice_get declared n) false
object_sendable_step declared (Inner-F.List item) = item
object_sendable_step declared (Inner-F.Vector item) = item
object_sendable_step declared (Inner-F.Set item) = item
object_sendable_step declared (Inner-F.Map key value) = key && value
object_sendable_step declared (Inner-F.Classifier rule value) = rule && value

-- a scalar and an enum are sendable, a tuple of nothing but sendable parts, and a reference to an
-- object that is
abbrev pub sendable_step : List Bool → ValueType-F Bool Bool → Bool
sendable_step declared (ValueType-F.Enum n) = unwrap_or (slice_get declared n) false
sendable_step declared (ValueType-F.Tuple parts) = list_all (λ is_sendable. is_sendable) parts
sendable_step declared (ValueType-F.Ref to) = to
sendable_step declared ValueType-F.Callable = false
sendable_step declared (ValueType-F.Iter over) = false
sendable_step declared _ = true

abbrev pub sendable_over : List Bool → ValueType → Bool
sendable_over declared =
    fold-ValueType Bool Bool (object_sendable_step declared) (sendable_step declared)

abbrev pub object_sendable_over : List Bool → Inner → Bool
object_sendable_over declared =
    fold-Inner Bool Bool (object_sendable_step declared) (sendable_step declared)

-- whether the types of all fields are sendable
abbrev pub fields_sendable : List Bool → List Member → Bool
fields_sendable before fields = list_all (λ field. sendable_over before field.kind) fields

-- a struct is sendable where the types of all its fields are
abbrev pub declared_sendable : List Bool → Declared → Bool
declared_sendable before (Declared.Struct name fields) = fields_sendable before fields
declared_sendable before (Declared.Enum name words) = true
declared_sendable before (Declared.Overlay name fields) = false

-- of each declared type, whether it is sendable
abbrev pub sendables : List Declared → List Bool
sendables types = told_in_turn declared_sendable types

-- whether a type is sendable
abbrev pub is_sendable_in : List Declared → ValueType → Bool
is_sendable_in types t = sendable_over (sendables types) t

-- whether the references to an object are sendable
abbrev pub is_object_sendable_in : List Declared → Inner → Bool
is_object_sendable_in types object = object_sendable_over (sendables types) object

abbrev pub IsSendable : List Declared → ValueType → Type 0
IsSendable types t = IsTrue (is_sendable_in types t)
