-- What types of a shape are.
use Rattle.std.proofs.Common.{◌≡◌, ℕ, IsTrue, List, refl, sym, ap, ◌∙◌, Some}
use Rattle.std.proofs.lemmas.Bool.{false≢true}
use Rattle.hilti_types.specs.declared.declared.Declared.{Declared}
use Rattle.hilti_types.specs.declared.value_type.Inner.{Inner, out-Inner, roll-Inner, roll-out-Inner, out-roll-Inner}
use Rattle.hilti_types.specs.declared.value_type.Inner.TheVariants as inners
use Rattle.hilti_types.specs.declared.value_type.ValueType.{ValueType, out-ValueType, roll-ValueType, roll-out-ValueType, out-roll-ValueType}
use Rattle.hilti_types.specs.declared.value_type.ValueType.TheVariants as types
use Rattle.hilti_types.specs.declared.value_type.Inner.TheOpen.{Inner-F, ValueType-F}
use Rattle.hilti_table.specs.declared.row.Family.{Family}
use Rattle.hilti_table.specs.declared.row.Family.TheVariants as families
use Rattle.hilti_table.specs.declared.row.Part.TheVariants as parts
use Rattle.hilti_table.specs.declared.row.Test.TheVariants as tests
use Rattle.hilti_typing.specs.Types.{referred, object_of, is_object, in_family, passes, part_of, part_of_shape}
use Rattle.hilti_typing.specs.Types.{is_int, is_iterator, is_tuple, gone_over, iterated, parts_of, parts_of_shape, rule_of, rule_of_shape}
use Rattle.hilti_typing.specs.Facts.{IsOf}

-- a reference
reference_shape : (family : Family) (shape : ValueType-F Inner ValueType) → IsTrue (is_object family (referred shape)) →
    (o : Inner) × (shape ≡ ValueType-F.Ref o) × IsOf family o
reference_shape family (ValueType-F.Ref to) is = (to, refl, is)
reference_shape family ValueType-F.Bool is = absurd (false≢true is)
reference_shape family (ValueType-F.Int bits) is = absurd (false≢true is)
reference_shape family ValueType-F.Text is = absurd (false≢true is)
reference_shape family ValueType-F.Bytes is = absurd (false≢true is)
reference_shape family ValueType-F.Addr is = absurd (false≢true is)
reference_shape family ValueType-F.Net is = absurd (false≢true is)
reference_shape family ValueType-F.Port is = absurd (false≢true is)
reference_shape family ValueType-F.Time is = absurd (false≢true is)
reference_shape family ValueType-F.Span is = absurd (false≢true is)
reference_shape family ValueType-F.Callable is = absurd (false≢true is)
reference_shape family (ValueType-F.Enum n) is = absurd (false≢true is)
reference_shape family (ValueType-F.Tuple parts) is = absurd (false≢true is)
reference_shape family (ValueType-F.Iter over) is = absurd (false≢true is)

of_shape : (t : ValueType) (shape : ValueType-F Inner ValueType) → out-ValueType t ≡ shape → t ≡ roll-ValueType shape
of_shape t shape e = sym (roll-out-ValueType t) ∙ ap roll-ValueType e

pub reference : (family : Family) (t : ValueType) → IsTrue (is_object family (object_of t)) → (o : Inner) × (t ≡ types.Ref o) × IsOf family o
reference family t is = let it = reference_shape family (out-ValueType t) is in
    (it.0, of_shape t (ValueType-F.Ref it.0) it.1 ∙ types.rolls-Ref it.0, it.2)

-- what a reference refers to
pub refers : (o : Inner) → object_of (types.Ref o) ≡ Some o
refers o = ap object_of (sym (types.rolls-Ref o)) ∙ ap referred (out-roll-ValueType (ValueType-F.Ref o))

-- objects of families
list_shape : (shape : Inner-F Inner ValueType) → IsTrue (in_family families.List shape) → (t : ValueType) × (shape ≡ Inner-F.List t)
list_shape (Inner-F.List item) is = (item, refl)
list_shape Inner-F.Timer is = absurd (false≢true is)
list_shape Inner-F.Manager is = absurd (false≢true is)
list_shape (Inner-F.Struct n) is = absurd (false≢true is)
list_shape (Inner-F.Vector item) is = absurd (false≢true is)
list_shape (Inner-F.Set item) is = absurd (false≢true is)
list_shape (Inner-F.Map key value) is = absurd (false≢true is)
list_shape (Inner-F.Classifier rule value) is = absurd (false≢true is)

vector_shape : (shape : Inner-F Inner ValueType) → IsTrue (in_family families.Vector shape) → (t : ValueType) × (shape ≡ Inner-F.Vector t)
vector_shape (Inner-F.Vector item) is = (item, refl)
vector_shape Inner-F.Timer is = absurd (false≢true is)
vector_shape Inner-F.Manager is = absurd (false≢true is)
vector_shape (Inner-F.Struct n) is = absurd (false≢true is)
vector_shape (Inner-F.List item) is = absurd (false≢true is)
vector_shape (Inner-F.Set item) is = absurd (false≢true is)
vector_shape (Inner-F.Map key value) is = absurd (false≢true is)
vector_shape (Inner-F.Classifier rule value) is = absurd (false≢true is)

set_shape : (shape : Inner-F Inner ValueType) → IsTrue (in_family families.Set shape) → (t : ValueType) × (shape ≡ Inner-F.Set t)
set_shape (Inner-F.Set item) is = (item, refl)
set_shape Inner-F.Timer is = absurd (false≢true is)
set_shape Inner-F.Manager is = absurd (false≢true is)
set_shape (Inner-F.Struct n) is = absurd (false≢true is)
set_shape (Inner-F.List item) is = absurd (false≢true is)
set_shape (Inner-F.Vector item) is = absurd (false≢true is)
set_shape (Inner-F.Map key value) is = absurd (false≢true is)
set_shape (Inner-F.Classifier rule value) is = absurd (false≢true is)

map_shape : (shape : Inner-F Inner ValueType) → IsTrue (in_family families.Map shape) → (k : ValueType) × (v : ValueType) × (shape ≡ Inner-F.Map k v)
map_shape (Inner-F.Map key value) is = (key, value, refl)
map_shape Inner-F.Timer is = absurd (false≢true is)
map_shape Inner-F.Manager is = absurd (false≢true is)
map_shape (Inner-F.Struct n) is = absurd (false≢true is)
map_shape (Inner-F.List item) is = absurd (false≢true is)
map_shape (Inner-F.Vector item) is = absurd (false≢true is)
map_shape (Inner-F.Set item) is = absurd (false≢true is)
map_shape (Inner-F.Classifier rule value) is = absurd (false≢true is)

struct_shape : (shape : Inner-F Inner ValueType) → IsTrue (in_family families.Struct shape) → (n : ℕ) × (shape ≡ Inner-F.Struct n)
struct_shape (Inner-F.Struct n) is = (n, refl)
struct_shape Inner-F.Timer is = absurd (false≢true is)
struct_shape Inner-F.Manager is = absurd (false≢true is)
struct_shape (Inner-F.List item) is = absurd (false≢true is)
struct_shape (Inner-F.Vector item) is = absurd (false≢true is)
struct_shape (Inner-F.Set item) is = absurd (false≢true is)
struct_shape (Inner-F.Map key value) is = absurd (false≢true is)
struct_shape (Inner-F.Classifier rule value) is = absurd (false≢true is)

classifier_shape : (shape : Inner-F Inner ValueType) → IsTrue (in_family families.Classifier shape) → (r : ValueType) × (v : ValueType) × (shape ≡ Inner-F.Classifier r v)
classifier_shape (Inner-F.Classifier rule value) is = (rule, value, refl)
classifier_shape Inner-F.Timer is = absurd (false≢true is)
classifier_shape Inner-F.Manager is = absurd (false≢true is)
classifier_shape (Inner-F.Struct n) is = absurd (false≢true is)
classifier_shape (Inner-F.List item) is = absurd (false≢true is)
classifier_shape (Inner-F.Vector item) is = absurd (false≢true is)
classifier_shape (Inner-F.Set item) is = absurd (false≢true is)
classifier_shape (Inner-F.Map key value) is = absurd (false≢true is)

object_of_shape : (o : Inner) (shape : Inner-F Inner ValueType) → out-Inner o ≡ shape → o ≡ roll-Inner shape
object_of_shape o shape e = sym (roll-out-Inner o) ∙ ap roll-Inner e

pub list : (o : Inner) → IsOf families.List o → (t : ValueType) × (o ≡ inners.List t)
list o is = let it = list_shape (out-Inner o) is in (it.0, object_of_shape o (Inner-F.List it.0) it.1 ∙ inners.rolls-List it.0)

pub vector : (o : Inner) → IsOf families.Vector o → (t : ValueType) × (o ≡ inners.Vector t)
vector o is = let it = vector_shape (out-Inner o) is in (it.0, object_of_shape o (Inner-F.Vector it.0) it.1 ∙ inners.rolls-Vector it.0)

pub set : (o : Inner) → IsOf families.Set o → (t : ValueType) × (o ≡ inners.Set t)
set o is = let it = set_shape (out-Inner o) is in (it.0, object_of_shape o (Inner-F.Set it.0) it.1 ∙ inners.rolls-Set it.0)

pub a_map : (o : Inner) → IsOf families.Map o → (k : ValueType) × (v : ValueType) × (o ≡ inners.Map k v)
a_map o is = let it = map_shape (out-Inner o) is in
    (it.0, it.1, object_of_shape o (Inner-F.Map it.0 it.1) it.2 ∙ inners.rolls-Map it.0 it.1)

pub struct : (o : Inner) → IsOf families.Struct o → (n : ℕ) × (o ≡ inners.Struct n)
struct o is = let it = struct_shape (out-Inner o) is in (it.0, object_of_shape o (Inner-F.Struct it.0) it.1 ∙ inners.rolls-Struct it.0)

pub classifier : (o : Inner) → IsOf families.Classifier o → (r : ValueType) × (v : ValueType) × (o ≡ inners.Classifier r v)
classifier o is = let it = classifier_shape (out-Inner o) is in
    (it.0, it.1, object_of_shape o (Inner-F.Classifier it.0 it.1) it.2 ∙ inners.rolls-Classifier it.0 it.1)

-- their parts
pub list_item : (t : ValueType) → part_of parts.First (inners.List t) ≡ Some t
list_item t = ap (part_of parts.First) (sym (inners.rolls-List t)) ∙ ap (part_of_shape parts.First) (out-roll-Inner (Inner-F.List t))

pub vector_item : (t : ValueType) → part_of parts.First (inners.Vector t) ≡ Some t
vector_item t = ap (part_of parts.First) (sym (inners.rolls-Vector t)) ∙ ap (part_of_shape parts.First) (out-roll-Inner (Inner-F.Vector t))

pub set_item : (t : ValueType) → part_of parts.First (inners.Set t) ≡ Some t
set_item t = ap (part_of parts.First) (sym (inners.rolls-Set t)) ∙ ap (part_of_shape parts.First) (out-roll-Inner (Inner-F.Set t))

pub map_key : (k v : ValueType) → part_of parts.First (inners.Map k v) ≡ Some k
map_key k v = ap (part_of parts.First) (sym (inners.rolls-Map k v)) ∙ ap (part_of_shape parts.First) (out-roll-Inner (Inner-F.Map k v))

pub map_value : (k v : ValueType) → part_of parts.Second (inners.Map k v) ≡ Some v
map_value k v = ap (part_of parts.Second) (sym (inners.rolls-Map k v)) ∙ ap (part_of_shape parts.Second) (out-roll-Inner (Inner-F.Map k v))

pub classifier_value : (r v : ValueType) → part_of parts.Second (inners.Classifier r v) ≡ Some v
classifier_value r v = ap (part_of parts.Second) (sym (inners.rolls-Classifier r v)) ∙ ap (part_of_shape parts.Second) (out-roll-Inner (Inner-F.Classifier r v))

pub classifier_rule : (r v : ValueType) → rule_of (inners.Classifier r v) ≡ Some (parts_of r)
classifier_rule r v = ap rule_of (sym (inners.rolls-Classifier r v)) ∙ ap rule_of_shape (out-roll-Inner (Inner-F.Classifier r v))

-- types that pass tests
int_shape : (shape : ValueType-F Inner ValueType) → IsTrue (is_int shape) → (x : ℕ) × (shape ≡ ValueType-F.Int x)
int_shape ValueType-F.Bool is = absurd (false≢true is)
int_shape (ValueType-F.Int bits) is = (bits, refl)
int_shape ValueType-F.Text is = absurd (false≢true is)
int_shape ValueType-F.Bytes is = absurd (false≢true is)
int_shape ValueType-F.Addr is = absurd (false≢true is)
int_shape ValueType-F.Net is = absurd (false≢true is)
int_shape ValueType-F.Port is = absurd (false≢true is)
int_shape ValueType-F.Time is = absurd (false≢true is)
int_shape ValueType-F.Span is = absurd (false≢true is)
int_shape ValueType-F.Callable is = absurd (false≢true is)
int_shape (ValueType-F.Enum n) is = absurd (false≢true is)
int_shape (ValueType-F.Tuple parts) is = absurd (false≢true is)
int_shape (ValueType-F.Iter over) is = absurd (false≢true is)
int_shape (ValueType-F.Ref to) is = absurd (false≢true is)

tuple_shape : (shape : ValueType-F Inner ValueType) → IsTrue (is_tuple shape) → (x : List ValueType) × (shape ≡ ValueType-F.Tuple x)
tuple_shape ValueType-F.Bool is = absurd (false≢true is)
tuple_shape (ValueType-F.Int bits) is = absurd (false≢true is)
tuple_shape ValueType-F.Text is = absurd (false≢true is)
tuple_shape ValueType-F.Bytes is = absurd (false≢true is)
tuple_shape ValueType-F.Addr is = absurd (false≢true is)
tuple_shape ValueType-F.Net is = absurd (false≢true is)
tuple_shape ValueType-F.Port is = absurd (false≢true is)
tuple_shape ValueType-F.Time is = absurd (false≢true is)
tuple_shape ValueType-F.Span is = absurd (false≢true is)
tuple_shape ValueType-F.Callable is = absurd (false≢true is)
tuple_shape (ValueType-F.Enum n) is = absurd (false≢true is)
tuple_shape (ValueType-F.Tuple parts) is = (parts, refl)
tuple_shape (ValueType-F.Iter over) is = absurd (false≢true is)
tuple_shape (ValueType-F.Ref to) is = absurd (false≢true is)

iterator_shape : (shape : ValueType-F Inner ValueType) → IsTrue (is_iterator shape) → (x : Inner) × (shape ≡ ValueType-F.Iter x)
iterator_shape ValueType-F.Bool is = absurd (false≢true is)
iterator_shape (ValueType-F.Int bits) is = absurd (false≢true is)
iterator_shape ValueType-F.Text is = absurd (false≢true is)
iterator_shape ValueType-F.Bytes is = absurd (false≢true is)
iterator_shape ValueType-F.Addr is = absurd (false≢true is)
iterator_shape ValueType-F.Net is = absurd (false≢true is)
iterator_shape ValueType-F.Port is = absurd (false≢true is)
iterator_shape ValueType-F.Time is = absurd (false≢true is)
iterator_shape ValueType-F.Span is = absurd (false≢true is)
iterator_shape ValueType-F.Callable is = absurd (false≢true is)
iterator_shape (ValueType-F.Enum n) is = absurd (false≢true is)
iterator_shape (ValueType-F.Tuple parts) is = absurd (false≢true is)
iterator_shape (ValueType-F.Iter over) is = (over, refl)
iterator_shape (ValueType-F.Ref to) is = absurd (false≢true is)

pub int : (table : List Declared) (t : ValueType) → IsTrue (passes table tests.Int t) → (x : ℕ) × (t ≡ types.Int x)
int table t is = let it = int_shape (out-ValueType t) is in (it.0, of_shape t (ValueType-F.Int it.0) it.1 ∙ types.rolls-Int it.0)

pub tuple : (table : List Declared) (t : ValueType) → IsTrue (passes table tests.Tuple t) → (x : List ValueType) × (t ≡ types.Tuple x)
tuple table t is = let it = tuple_shape (out-ValueType t) is in (it.0, of_shape t (ValueType-F.Tuple it.0) it.1 ∙ types.rolls-Tuple it.0)

pub iterator : (table : List Declared) (t : ValueType) → IsTrue (passes table tests.Iterator t) → (x : Inner) × (t ≡ types.Iter x)
iterator table t is = let it = iterator_shape (out-ValueType t) is in (it.0, of_shape t (ValueType-F.Iter it.0) it.1 ∙ types.rolls-Iter it.0)

-- what an iterator goes over, and the parts of a tuple
pub goes_over : (o : Inner) → iterated (types.Iter o) ≡ Some o
goes_over o = ap iterated (sym (types.rolls-Iter o)) ∙ ap gone_over (out-roll-ValueType (ValueType-F.Iter o))

pub tuple_parts : (parts : List ValueType) → parts_of (types.Tuple parts) ≡ parts
tuple_parts parts = ap parts_of (sym (types.rolls-Tuple parts)) ∙ ap parts_of_shape (out-roll-ValueType (ValueType-F.Tuple parts))
