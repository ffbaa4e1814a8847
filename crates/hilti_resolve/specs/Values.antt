-- The type that a written type stands for, or the place of the first part of it that breaks the
-- rules of types: an outer one stands in front of those inside it. Where the rule of a part asks of
-- an inner one what only a type has, as a set asks whether its elements are keys, and that is no
-- type, nothing but the inner one's own fault counts.
use Rattle.std.specs.Prelude.{◌≡◌, ℕ, ◌==◌, ◌||◌, ◌&&◌, nat_le, Bool, true, false, cond, List, []}
use Rattle.std.specs.Prelude.{◌∷◌, length, Result, Ok, Err}
use Rattle.hilti_base.specs.declared.names.Place.{Place}
use Rattle.hilti_module.specs.declared.types.Name.{Name}
use Rattle.hilti_module.specs.declared.types.TypeText.{TypeText}
use Rattle.hilti_module.specs.declared.types.InnerText.{InnerText}
use Rattle.hilti_module.specs.declared.types.Container.{Container}
use Rattle.hilti_module.specs.declared.types.Parametric.{Parametric}
use Rattle.hilti_module.specs.declared.types.PlainType.{PlainType}
use Rattle.hilti_module.specs.declared.types.PlainType.TheVariants as plain
use Rattle.hilti_module.specs.declared.types.PlainInner.{PlainInner}
use Rattle.hilti_module.specs.declared.types.PlainInner.TheVariants as words
use Rattle.hilti_module.specs.declared.types.Single.{Single}
use Rattle.hilti_module.specs.declared.types.Single.TheVariants as singles
use Rattle.hilti_module.specs.declared.types.Double.{Double}
use Rattle.hilti_module.specs.declared.types.Double.TheVariants as doubles
use Rattle.hilti_module.specs.declared.types.Container.TheOpen.{Container-F, InnerText-F}
use Rattle.hilti_module.specs.declared.types.Container.TheOpen.{Parametric-F, TypeText-F}
use Rattle.hilti_module.specs.declared.types.Container.TheFolds.{fold-Container, fold-InnerText}
use Rattle.hilti_module.specs.declared.types.Container.TheFolds.{fold-Parametric, fold-TypeText}
use Rattle.hilti_types.specs.declared.declared.Declared.{Declared}
use Rattle.hilti_types.specs.declared.value_type.ValueType.{ValueType}
use Rattle.hilti_types.specs.declared.value_type.ValueType.TheVariants as types
use Rattle.hilti_types.specs.declared.value_type.Inner.{Inner}
use Rattle.hilti_types.specs.declared.value_type.Inner.TheVariants as objects
use Rattle.hilti_types.specs.Keys.{key_over}
use Rattle.hilti_scope.specs.declared.meaning.Meaning.{Meaning}
use Rattle.hilti_scope.specs.declared.meaning.Meaning.TheVariants as means
use Rattle.hilti_resolve.specs.declared.inner_value.InnerValue.{InnerValue}
use Rattle.hilti_resolve.specs.declared.inner_value.InnerValue.TheVariants.{Object, BytesWord}
use Rattle.hilti_resolve.specs.declared.inner_value.InnerValue.TheVariants.{NoObject}

abbrev pub plain_value : PlainType → ValueType
plain_value plain.Bool = types.Bool
plain_value plain.Text = types.Text
plain_value plain.Bytes = types.Bytes
plain_value plain.Addr = types.Addr
plain_value plain.Net = types.Net
plain_value plain.Port = types.Port
plain_value plain.Time = types.Time
plain_value plain.Interval = types.Span
plain_value plain.Callable = types.Callable

abbrev pub inner_word : PlainInner → InnerValue
inner_word words.Bytes = BytesWord
inner_word words.Timer = Object objects.Timer
inner_word words.Manager = Object objects.Manager

-- a name alone is a type where it means an enum
abbrev pub named_value : Meaning → Place → Result ValueType Place
named_value (means.Enum n) place = Ok (types.Enum n)
named_value _ place = Err place

-- between `<` and `>` it is an object's type where it means a struct
abbrev pub named_inner : Meaning → InnerValue
named_inner (means.Struct n) = Object (objects.Struct n)
named_inner _ = NoObject

abbrev pub is_width : ℕ → Bool
is_width bits = bits == 8 || bits == 16 || bits == 32 || bits == 64

abbrev pub int_value : Place → ℕ → Result ValueType Place
int_value place bits = cond (is_width bits) (Ok (types.Int bits)) (Err place)

-- What something written stands for, or the place of its fault; and beside it whether it has the
-- form that what stands around it may ask for, which is known also where it has a fault: of a type,
-- whether it is a tuple, and of what stands between `<` and `>`, whether it is a list, vector, set
-- or map.
pub record Read (A : Type 0) : Type 0 where
  pub form : Bool
  pub stands : Result A Place

-- one more in front of others, if these have no fault
abbrev pub behind : ValueType → Result (List ValueType) Place → Result (List ValueType) Place
behind value (Err place) = Err place
behind value (Ok values) = Ok (value ∷ values)

abbrev pub in_front :
    Result ValueType Place → Result (List ValueType) Place → Result (List ValueType) Place
in_front (Err place) more = Err place
in_front (Ok value) more = behind value more

-- all of them, or the first fault
unfoldable pub all_of : List (Read ValueType) → Result (List ValueType) Place
all_of [] = Ok []
all_of (first ∷ more) = in_front first.stands (all_of more)

abbrev pub tuple_of : Result (List ValueType) Place → Result ValueType Place
tuple_of (Err inside) = Err inside
tuple_of (Ok parts) = Ok (types.Tuple parts)

-- a tuple has 1 to 8 parts
abbrev pub tuple_value : Place → List (Read ValueType) → Result ValueType Place
tuple_value place parts =
    cond (nat_le 1 (length parts) && nat_le (length parts) 8) (tuple_of (all_of parts)) (Err place)

abbrev pub iterator_over : Place → Result InnerValue Place → Result ValueType Place
iterator_over place (Err inside) = Err inside
iterator_over place (Ok (Object object)) = Ok (types.Iter object)
iterator_over place (Ok BytesWord) = Err place
iterator_over place (Ok NoObject) = Err place

-- an iterator goes over a list, vector, set or map
abbrev pub iterator_value : Place → Read InnerValue → Result ValueType Place
iterator_value place over = cond over.form (iterator_over place over.stands) (Err place)

-- a reference goes to an object, and a reference to bytes is bytes
abbrev pub reference_value : Place → Result InnerValue Place → Result ValueType Place
reference_value place (Err inside) = Err inside
reference_value place (Ok (Object object)) = Ok (types.Ref object)
reference_value place (Ok BytesWord) = Ok types.Bytes
reference_value place (Ok NoObject) = Err place

-- the elements of a set are of a key type
abbrev pub single_value :
    List Declared → Place → Single → Result ValueType Place → Result Inner Place
single_value table place single (Err inside) = Err inside
single_value table place singles.List (Ok item) = Ok (objects.List item)
single_value table place singles.Vector (Ok item) = Ok (objects.Vector item)
single_value table place singles.Set (Ok item) =
    cond (key_over table item) (Ok (objects.Set item)) (Err place)

-- a rule of a classifier is a tuple
abbrev pub takes : Double → Bool → Bool
takes doubles.Map is_tuple = true
takes doubles.Classifier is_tuple = is_tuple

abbrev pub object_of : Double → ValueType → ValueType → Inner
object_of doubles.Map first second = objects.Map first second
object_of doubles.Classifier first second = objects.Classifier first second

abbrev pub with_second : Double → ValueType → Result ValueType Place → Result Inner Place
with_second double first (Err inside) = Err inside
with_second double first (Ok second) = Ok (object_of double first second)

-- the keys of a map and the rules of a classifier are of key types
abbrev pub both_value :
    List Declared → Place → Double → Result ValueType Place → Result ValueType Place
    → Result Inner Place
both_value table place double (Err inside) second = Err inside
both_value table place double (Ok first) second =
    cond (key_over table first) (with_second double first second) (Err place)

abbrev pub double_value :
    List Declared → Place → Double → Read ValueType → Result ValueType Place → Result Inner Place
double_value table place double first second =
    cond (takes double first.form) (both_value table place double first.stands second) (Err place)

-- an iterator may go over a container of one type, and over a map
abbrev pub is_map : Double → Bool
is_map doubles.Map = true
is_map doubles.Classifier = false

abbrev pub as_inner : Result Inner Place → Result InnerValue Place
as_inner (Err place) = Err place
as_inner (Ok object) = Ok (Object object)

abbrev pub OpenContainer : Type 0
OpenContainer = Container-F (Read Inner) (Read InnerValue) (Read ValueType) (Read ValueType)

abbrev pub OpenInner : Type 0
OpenInner = InnerText-F (Read Inner) (Read InnerValue) (Read ValueType) (Read ValueType)

abbrev pub OpenParametric : Type 0
OpenParametric = Parametric-F (Read Inner) (Read InnerValue) (Read ValueType) (Read ValueType)

abbrev pub OpenType : Type 0
OpenType = TypeText-F (Read Inner) (Read InnerValue) (Read ValueType) (Read ValueType)

abbrev pub read : {A : Type 0} → Bool → Result A Place → Read A
read form stands = record { form = form; stands = stands }

abbrev pub container_reads : List Declared → OpenContainer → Read Inner
container_reads table (Container-F.Single place single item) =
    read true (single_value table place single item.stands)
container_reads table (Container-F.Double place double first second) =
    read (is_map double) (double_value table place double first second.stands)

abbrev pub inner_reads : (Name → Meaning) → OpenInner → Read InnerValue
inner_reads mean (InnerText-F.Word place word) = read false (Ok (inner_word word))
inner_reads mean (InnerText-F.Container container) = read container.form (as_inner container.stands)
inner_reads mean (InnerText-F.Declared name) = read false (Ok (named_inner (mean name)))

abbrev pub parametric_reads : OpenParametric → Read ValueType
parametric_reads (Parametric-F.Int place bits) = read false (int_value place bits.value)
parametric_reads (Parametric-F.Tuple place parts) = read true (tuple_value place parts)
parametric_reads (Parametric-F.Iterator place over) = read false (iterator_value place over)
parametric_reads (Parametric-F.Ref place to) = read false (reference_value place to.stands)

abbrev pub type_reads : (Name → Meaning) → OpenType → Read ValueType
type_reads mean (TypeText-F.Plain place plain) = read false (Ok (plain_value plain))
type_reads mean (TypeText-F.Parametric parametric) = parametric
type_reads mean (TypeText-F.Named name) = read false (named_value (mean name) name.first.place)

abbrev pub read_of : List Declared → (Name → Meaning) → TypeText → Read ValueType
read_of table mean =
    fold-TypeText (Read Inner) (Read InnerValue) (Read ValueType) (Read ValueType)
    (container_reads table) (inner_reads mean) parametric_reads (type_reads mean)

abbrev pub parametric_read_of : List Declared → (Name → Meaning) → Parametric → Read ValueType
parametric_read_of table mean =
    fold-Parametric (Read Inner) (Read InnerValue) (Read ValueType) (Read ValueType)
    (container_reads table) (inner_reads mean) parametric_reads (type_reads mean)

abbrev pub inner_read_of : List Declared → (Name → Meaning) → InnerText → Read InnerValue
inner_read_of table mean =
    fold-InnerText (Read Inner) (Read InnerValue) (Read ValueType) (Read ValueType)
    (container_reads table) (inner_reads mean) parametric_reads (type_reads mean)

abbrev pub container_read_of : List Declared → (Name → Meaning) → Container → Read Inner
container_read_of table mean =
    fold-Container (Read Inner) (Read InnerValue) (Read ValueType) (Read ValueType)
    (container_reads table) (inner_reads mean) parametric_reads (type_reads mean)

-- the type that a written type stands for, or the place where it breaks the rules of types; `table`
-- has the types that are declared in front of it
abbrev pub value_of : List Declared → (Name → Meaning) → TypeText → Result ValueType Place
value_of table mean text = (read_of table mean text).stands

abbrev pub parametric_value_of :
    List Declared → (Name → Meaning) → Parametric → Result ValueType Place
parametric_value_of table mean parametric = (parametric_read_of table mean parametric).stands

abbrev pub inner_value_of : List Declared → (Name → Meaning) → InnerText → Result InnerValue Place
inner_value_of table mean inner = (inner_read_of table mean inner).stands

abbrev pub container_value_of : List Declared → (Name → Meaning) → Container → Result Inner Place
container_value_of table mean container = (container_read_of table mean container).stands

-- whether something written has the form that is asked of it, whatever the names in it mean
abbrev pub HasForm :
    {X A : Type 0} → (List Declared → (Name → Meaning) → X → Read A) → X → Bool → Type 0
HasForm reads written form =
    (table : List Declared) (mean : Name → Meaning) → form ≡ (reads table mean written).form

-- whether a container may have a first type of this form
abbrev pub MayTake : Double → TypeText → Bool → Type 0
MayTake double first may =
    (table : List Declared) (mean : Name → Meaning)
    → may ≡ takes double (read_of table mean first).form
