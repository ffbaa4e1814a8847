-- Types that rows name, what rows ask of types, and the parts of types.
use Rattle.std.specs.Prelude.{Bool, true, false, List, [], ◌∷◌, Option, Some, None, slice_get}
use Rattle.hilti_types.specs.declared.declared.Declared.{Declared}
use Rattle.hilti_types.specs.declared.declared.Declared.TheVariants as declared
use Rattle.hilti_types.specs.declared.declared.Member.{Member}
use Rattle.hilti_types.specs.declared.declared.OverlayField.{OverlayField}
use Rattle.hilti_types.specs.declared.value_type.Inner.{Inner, out-Inner}
use Rattle.hilti_types.specs.declared.value_type.Inner.TheVariants as inners
use Rattle.hilti_types.specs.declared.value_type.ValueType.{ValueType, out-ValueType}
use Rattle.hilti_types.specs.declared.value_type.ValueType.TheVariants as types
use Rattle.hilti_types.specs.declared.value_type.Inner.TheOpen.{Inner-F, ValueType-F}
use Rattle.hilti_types.specs.Keys.{key_over}
use Rattle.hilti_types.specs.Sendable.{sendable_over, sendables}
use Rattle.hilti_table.specs.declared.row.Plain.{Plain}
use Rattle.hilti_table.specs.declared.row.Plain.TheVariants as plain
use Rattle.hilti_table.specs.declared.row.Family.{Family}
use Rattle.hilti_table.specs.declared.row.Family.TheVariants as families
use Rattle.hilti_table.specs.declared.row.Test.{Test}
use Rattle.hilti_table.specs.declared.row.Test.TheVariants as tests
use Rattle.hilti_table.specs.declared.row.Part.{Part}
use Rattle.hilti_table.specs.declared.row.Part.TheVariants as parts

-- a type that rows name
abbrev pub plain_type : Plain → ValueType
plain_type plain.Bool = types.Bool
plain_type plain.Int8 = types.Int 8
plain_type plain.Int16 = types.Int 16
plain_type plain.Int64 = types.Int 64
plain_type plain.Text = types.Text
plain_type plain.Bytes = types.Bytes
plain_type plain.Addr = types.Addr
plain_type plain.Net = types.Net
plain_type plain.Port = types.Port
plain_type plain.Time = types.Time
plain_type plain.Span = types.Span
plain_type plain.Callable = types.Callable
plain_type plain.Timer = types.Ref inners.Timer
plain_type plain.Manager = types.Ref inners.Manager

-- whether an object is of a family
abbrev pub in_family : Family → Inner-F Inner ValueType → Bool
in_family families.Struct (Inner-F.Struct n) = true
in_family families.List (Inner-F.List item) = true
in_family families.Vector (Inner-F.Vector item) = true
in_family families.Set (Inner-F.Set item) = true
in_family families.Map (Inner-F.Map key value) = true
in_family families.Classifier (Inner-F.Classifier rule value) = true
in_family families.Container (Inner-F.List item) = true
in_family families.Container (Inner-F.Vector item) = true
in_family families.Container (Inner-F.Set item) = true
in_family families.Container (Inner-F.Map key value) = true
in_family _ _ = false

-- the object that a type is a reference to
abbrev pub referred : ValueType-F Inner ValueType → Option Inner
referred (ValueType-F.Ref to) = Some to
referred _ = None

abbrev pub object_of : ValueType → Option Inner
object_of t = referred (out-ValueType t)

abbrev pub is_object : Family → Option Inner → Bool
is_object family (Some object) = in_family family (out-Inner object)
is_object family None = false

-- the container that an iterator goes over
abbrev pub gone_over : ValueType-F Inner ValueType → Option Inner
gone_over (ValueType-F.Iter over) = Some over
gone_over _ = None

abbrev pub iterated : ValueType → Option Inner
iterated t = gone_over (out-ValueType t)

-- references, iterators and callables may be Null
abbrev pub may_be_null : ValueType → Bool
may_be_null types.Callable = true
may_be_null (types.Iter over) = true
may_be_null (types.Ref to) = true
may_be_null _ = false

abbrev pub is_int : ValueType-F Inner ValueType → Bool
is_int (ValueType-F.Int bits) = true
is_int _ = false

abbrev pub is_tuple : ValueType-F Inner ValueType → Bool
is_tuple (ValueType-F.Tuple parts) = true
is_tuple _ = false

abbrev pub is_iterator : ValueType-F Inner ValueType → Bool
is_iterator (ValueType-F.Iter over) = true
is_iterator _ = false

-- whether a type passes a test
abbrev pub passes : List Declared → Test → ValueType → Bool
passes table tests.Any t = true
passes table tests.Key t = key_over table t
passes table tests.Sendable t = sendable_over (sendables table) t
passes table tests.Nullable t = may_be_null t
passes table tests.Int t = is_int (out-ValueType t)
passes table tests.Tuple t = is_tuple (out-ValueType t)
passes table tests.Iterator t = is_iterator (out-ValueType t)
passes table (tests.Object family) t = is_object family (object_of t)

-- the element or the key of a container, and the value of a map or a classifier
abbrev pub part_of_shape : Part → Inner-F Inner ValueType → Option ValueType
part_of_shape parts.First (Inner-F.List item) = Some item
part_of_shape parts.First (Inner-F.Vector item) = Some item
part_of_shape parts.First (Inner-F.Set item) = Some item
part_of_shape parts.First (Inner-F.Map key value) = Some key
part_of_shape parts.Second (Inner-F.Map key value) = Some value
part_of_shape parts.Second (Inner-F.Classifier rule value) = Some value
part_of_shape _ _ = None

abbrev pub part_of : Part → Inner → Option ValueType
part_of part object = part_of_shape part (out-Inner object)

-- what an iterator gives: elements, keys, or pairs of a key and its value
abbrev pub item_of_shape : Inner-F Inner ValueType → Option ValueType
item_of_shape (Inner-F.List item) = Some item
item_of_shape (Inner-F.Vector item) = Some item
item_of_shape (Inner-F.Set item) = Some item
item_of_shape (Inner-F.Map key value) = Some (types.Tuple (key ∷ value ∷ []))
item_of_shape _ = None

abbrev pub item_of : Inner → Option ValueType
item_of object = item_of_shape (out-Inner object)

-- the parts of a tuple
abbrev pub parts_of_shape : ValueType-F Inner ValueType → List ValueType
parts_of_shape (ValueType-F.Tuple parts) = parts
parts_of_shape _ = []

abbrev pub parts_of : ValueType → List ValueType
parts_of t = parts_of_shape (out-ValueType t)

-- the parts of a classifier's rules
abbrev pub rule_of_shape : Inner-F Inner ValueType → Option (List ValueType)
rule_of_shape (Inner-F.Classifier rule value) = Some (parts_of rule)
rule_of_shape _ = None

abbrev pub rule_of : Inner → Option (List ValueType)
rule_of object = rule_of_shape (out-Inner object)

-- what a classifier is asked for a part of its rules: of a net an address
abbrev pub asked_for : ValueType → ValueType
asked_for types.Net = types.Addr
asked_for t = t

-- `new` makes any object but a timer
abbrev pub can_be_made : Inner → Bool
can_be_made inners.Timer = false
can_be_made _ = true

abbrev pub struct_fields : Option Declared → List Member
struct_fields (Some (declared.Struct name fields)) = fields
struct_fields _ = []

abbrev pub overlay_fields : Option Declared → Option (List OverlayField)
overlay_fields (Some (declared.Overlay name fields)) = Some fields
overlay_fields _ = None

abbrev pub fields_of_shape : List Declared → Inner-F Inner ValueType → List Member
fields_of_shape table (Inner-F.Struct n) = struct_fields (slice_get table n)
fields_of_shape table _ = []

-- the fields of an object that is a struct
abbrev pub fields_of : List Declared → Inner → List Member
fields_of table object = fields_of_shape table (out-Inner object)
