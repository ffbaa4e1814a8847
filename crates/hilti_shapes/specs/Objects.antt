-- Objects of types, and stores of such objects.
use Rattle.std.specs.Prelude.{◌≡◌, ℕ, ◌<◌, List, map, take, Option, Some, None, IsSomeAnd}
use Rattle.std.specs.Prelude.{slice_get}
use Rattle.std.specs.List.{AllZip}
use Rattle.hilti_types.specs.declared.declared.Declared.{Declared}
use Rattle.hilti_types.specs.declared.declared.Member.{Member}
use Rattle.hilti_types.specs.declared.value_type.Inner.{Inner, out-Inner}
use Rattle.hilti_types.specs.declared.value_type.Inner.TheOpen.{Inner-F}
use Rattle.hilti_types.specs.declared.value_type.ValueType.{ValueType}
use Rattle.hilti_parts.specs.declared.parts.Function.{Function}
use Rattle.hilti_parts.specs.declared.parts.Parts.{Parts}
use Rattle.hilti_typing.specs.Types.{struct_fields}
use Rattle.hilti_values.specs.declared.value.Value.{Value}
use Rattle.hilti_heap.specs.declared.object.Object.{Object}
use Rattle.hilti_heap.specs.declared.object.Object.TheVariants.{Struct, Bound}
use Rattle.hilti_heap.specs.Stores.{Store, Answer, Answer.Done, Answer.Raised}
use Rattle.hilti_shapes.specs.Needs.{ObjectType, ObjectType.Referred, ObjectType.Callable}
use Rattle.hilti_shapes.specs.Needs.{Kinds, Have, MayHave, IsResult, Grows}

-- the types of the fields of a declared struct
abbrev pub field_types : List Declared → ℕ → List ValueType
field_types table n = map (λ (m : Member). m.kind) (struct_fields (slice_get table n))

-- a struct has the declared fields, each of which is unset or has its type
abbrev pub IsStruct : List Declared → Kinds → List (Option Value) → Inner-F Inner ValueType → Type 0
IsStruct table kinds fields (Inner-F.Struct n) =
    AllZip (MayHave table kinds) fields (field_types table n)
IsStruct table kinds fields _ = ⊥

-- a void function, and values of the types of its parameters
pub record CanRun (table : List Declared) (kinds : Kinds) (values : List Value) (f : Function)
    : Type 0 where
  pub void : f.result ≡ None
  pub arguments : Have table kinds values (take f.params f.slots)

-- an object is of a type
abbrev pub IsObject : Parts → Kinds → Object → ObjectType → Type 0
IsObject parts kinds (Struct fields) (Referred to) =
    IsStruct parts.types kinds fields (out-Inner to)
IsObject parts kinds (Bound function values) Callable =
    IsSomeAnd (slice_get parts.functions function.n) (CanRun parts.types kinds values)
IsObject parts kinds _ _ = ⊥

-- an object of a type is there
pub record Names (parts : Parts) (kinds : Kinds) (st : Store) (serial : ℕ) (type : ObjectType)
    : Type 0 where
  pub object : Object
  pub there : st.object serial ≡ Some object
  pub is : IsObject parts kinds object type

-- a store of objects of these types
pub record IsStore (parts : Parts) (kinds : Kinds) (st : Store) : Type 0 where
  pub known : (serial : ℕ) (type : ObjectType) → kinds serial ≡ Some type → serial < st.next
  pub each : (serial : ℕ) (type : ObjectType) → kinds serial ≡ Some type →
      Names parts kinds st serial type

-- an instruction on objects gives a result of a type, and a store of the same types with those of
-- new objects
pub record Gives (parts : Parts) (kinds : Kinds) (t : Option ValueType) (result : Option Value)
    (st : Store) : Type 0 where
  pub grown : Kinds
  pub grows : Grows kinds grown
  pub store : IsStore parts grown st
  pub result_is : IsResult parts.types grown t result

abbrev pub Answers : Parts → Kinds → Option ValueType → Answer → Type 0
Answers parts kinds t (Done result st) = Gives parts kinds t result st
Answers parts kinds t (Raised raise) = Unit {0}
