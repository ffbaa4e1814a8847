-- Values of types: what a value of a type needs of the objects that it names.
use Rattle.std.specs.Prelude.{◌≡◌, ℕ, ◌^◌, nat_lt, nat_eq, ◌||◌, Bool, if◌then◌else◌, List, []}
use Rattle.std.specs.Prelude.{◌∷◌, ◌++◌, slice_get, Option, Some, None, IfSome, IsSomeAnd}
use Rattle.std.specs.List.{AllByRecursion, AllZip}
use Rattle.hilti_types.specs.declared.declared.Declared.{Declared}
use Rattle.hilti_types.specs.declared.value_type.Inner.{Inner}
use Rattle.hilti_types.specs.declared.value_type.Inner.TheOpen.{ValueType-F}
use Rattle.hilti_types.specs.declared.value_type.ValueType.{ValueType, out-ValueType}
use Rattle.hilti_typing.specs.Fits.{is_constant}
use Rattle.hilti_values.specs.declared.value.Value.{Value}
use Rattle.hilti_values.specs.declared.value.Value.TheOpen.{Value-F}
use Rattle.hilti_values.specs.declared.value.Value.TheFolds.{fold-Value}

-- what an object is: of a type that references refer to, or a callable with its arguments
pub data ObjectType : Type 0 where
  Referred : (to : Inner) → ObjectType
  Callable : ObjectType

-- an object has to be of a type
pub record Need : Type 0 where
  pub serial : ℕ
  pub type : ObjectType

-- what a value needs; `None` where it is of no such type, whatever its objects are
abbrev pub Needs : Type 0
Needs = Option (List Need)

abbrev pub nothing : Needs
nothing = Some []

abbrev pub nothing_if : Bool → Needs
nothing_if fits = if fits then nothing else None

abbrev pub object_of : ℕ → ObjectType → Needs
object_of serial type = Some (record { serial = serial; type = type } ∷ [])

abbrev pub both_need : Needs → Needs → Needs
both_need (Some a) (Some b) = Some (a ++ b)
both_need _ _ = None

-- parts for types, one for one
abbrev pub all_need : List (ValueType → Needs) → List ValueType → Needs
all_need [] [] = nothing
all_need (part ∷ parts) (t ∷ types) = both_need (part t) (all_need parts types)
all_need _ _ = None

-- a number is below 2 to its width, a pick is the place of a constant, and Null is of each type
-- that names objects; the first place is of each enum, since no written enum is without constants
abbrev pub needs_shape : List Declared → Value-F (ValueType → Needs)
    → ValueType-F Inner ValueType → Needs
needs_shape table (Value-F.Bool truth) ValueType-F.Bool = nothing
needs_shape table (Value-F.Int n) (ValueType-F.Int bits) = nothing_if (nat_lt n (2 ^ bits))
needs_shape table (Value-F.Text bytes) ValueType-F.Text = nothing
needs_shape table (Value-F.Bytes bytes) ValueType-F.Bytes = nothing
needs_shape table (Value-F.Addr address) ValueType-F.Addr = nothing
needs_shape table (Value-F.Net length address) ValueType-F.Net = nothing
needs_shape table (Value-F.Port n is_udp) ValueType-F.Port = nothing
needs_shape table (Value-F.Time nanos) ValueType-F.Time = nothing
needs_shape table (Value-F.Span nanos) ValueType-F.Span = nothing
needs_shape table (Value-F.Pick n) (ValueType-F.Enum m) =
    nothing_if (nat_eq n 0 || is_constant n (slice_get table m))
needs_shape table (Value-F.Tuple parts) (ValueType-F.Tuple types) = all_need parts types
needs_shape table Value-F.Null ValueType-F.Callable = nothing
needs_shape table Value-F.Null (ValueType-F.Iter over) = nothing
needs_shape table Value-F.Null (ValueType-F.Ref to) = nothing
needs_shape table (Value-F.Ref serial) ValueType-F.Callable = object_of serial Callable
needs_shape table (Value-F.Ref serial) (ValueType-F.Ref to) = object_of serial (Referred to)
needs_shape table (Value-F.Iter cursor) (ValueType-F.Iter over) =
    object_of cursor.object (Referred over)
needs_shape table _ _ = None

abbrev pub needs_step : List Declared → Value-F (ValueType → Needs) → ValueType → Needs
needs_step table value t = needs_shape table value (out-ValueType t)

-- which objects have to be of which types so that a value is of a type
abbrev pub needs : List Declared → Value → ValueType → Needs
needs table = fold-Value (ValueType → Needs) (needs_step table)

-- which type each object has
abbrev pub Kinds : Type 0
Kinds = ℕ → Option ObjectType

-- no object has a type
abbrev pub no_kinds : Kinds
no_kinds serial = None

abbrev pub Meets : Kinds → List Need → Type 0
Meets kinds = AllByRecursion (λ (need : Need). kinds need.serial ≡ Some need.type)

-- a value has a type
abbrev pub Has : List Declared → Kinds → Value → ValueType → Type 0
Has table kinds value t = IsSomeAnd (needs table value t) (Meets kinds)

-- values have types, one for one
abbrev pub Have : List Declared → Kinds → List Value → List ValueType → Type 0
Have table kinds = AllZip (Has table kinds)

-- what there is has the type
abbrev pub MayHave : List Declared → Kinds → Option Value → ValueType → Type 0
MayHave table kinds field t = IfSome field (λ value. Has table kinds value t)

-- a result is there where there is a type for it, and has that type
abbrev pub IsResult : List Declared → Kinds → Option ValueType → Option Value → Type 0
IsResult table kinds None result = result ≡ None
IsResult table kinds (Some t) result = IsSomeAnd result (λ value. Has table kinds value t)

-- the same types of the same objects, and of new ones
abbrev pub Grows : Kinds → Kinds → Type 0
Grows old new = (serial : ℕ) (type : ObjectType) → old serial ≡ Some type → new serial ≡ Some type
