-- How deep types nest.
use Rattle.std.specs.Prelude.{ℕ, ◌+◌, ◌-◌, ◌^◌, max, min, List, map}
use Rattle.std.specs.List.{fold, slice_get}
use Rattle.std.specs.Option.{unwrap_or}
use Rattle.hilti_types.specs.InTurn.{told_in_turn}
use Rattle.hilti_types.specs.declared.declared.Declared.{Declared}
use Rattle.hilti_types.specs.declared.declared.Member.{Member}
use Rattle.hilti_types.specs.declared.value_type.Inner.{Inner}
use Rattle.hilti_types.specs.declared.value_type.ValueType.{ValueType}
use Rattle.hilti_types.specs.declared.value_type.Inner.TheOpen.{Inner-F, ValueType-F}
use Rattle.hilti_types.specs.declared.value_type.Inner.TheFolds.{fold-Inner, fold-ValueType}

-- the greatest of some numbers, and 0 of none
abbrev pub greatest : List ℕ → ℕ
greatest depths = fold max 0 depths

-- an object is 1 deeper than the deepest of its parts; `declared` tells of each declared type how
-- deep it is
abbrev pub object_depth_step : List ℕ → Inner-F ℕ ℕ → ℕ
object_depth_step declared Inner-F.Timer = 1
object_depth_step declared Inner-F.Manager = 1
object_depth_step declared (Inner-F.Struct n) = unwrap_or (slice_get declared n) 1
object_depth_step declared (Inner-F.List item) = 1 + item
object_depth_step declared (Inner-F.Vector item) = 1 + item
object_depth_step declared (Inner-F.Set item) = 1 + item
object_depth_step declared (Inner-F.Map key value) = 1 + max key value
object_depth_step declared (Inner-F.Classifier rule value) = 1 + max rule value

-- a tuple and an iterator are 1 deeper than their deepest part, and a reference is as deep as its
-- object
abbrev pub depth_step : ValueType-F ℕ ℕ → ℕ
depth_step (ValueType-F.Tuple parts) = 1 + greatest parts
depth_step (ValueType-F.Iter over) = 1 + over
depth_step (ValueType-F.Ref to) = to
depth_step _ = 1

abbrev pub depth_over : List ℕ → ValueType → ℕ
depth_over declared = fold-ValueType ℕ ℕ (object_depth_step declared) depth_step

abbrev pub object_depth_over : List ℕ → Inner → ℕ
object_depth_over declared = fold-Inner ℕ ℕ (object_depth_step declared) depth_step

-- the depth of the deepest field
abbrev pub fields_depth : List ℕ → List Member → ℕ
fields_depth before fields = greatest (map (λ field. depth_over before field.kind) fields)

-- a struct is 1 deeper than the deepest of its fields
abbrev pub declared_depth : List ℕ → Declared → ℕ
declared_depth before (Declared.Struct name fields) = 1 + fields_depth before fields
declared_depth before _ = 1

-- how deep each declared type is
abbrev pub depths : List Declared → List ℕ
depths types = told_in_turn declared_depth types

-- how deep a type nests
abbrev pub depth_of : List Declared → ValueType → ℕ
depth_of types t = depth_over (depths types) t

-- how deep the type of an object nests
abbrev pub object_depth_of : List Declared → Inner → ℕ
object_depth_of types object = object_depth_over (depths types) object

-- a depth as it is told: the greatest that can be told stands for all that are greater
abbrev pub as_u32 : ℕ → ℕ
as_u32 depth = min depth (2 ^ 32 - 1)
