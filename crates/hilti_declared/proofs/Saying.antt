-- Written types that say the same stand for the same type, whatever the names in them are: by induction over the types
-- that contain each other.
use Rattle.std.proofs.Common.{◌≡◌, refl, sym, ◌∙◌, ap, ap₂, subst, Bool, true, false, cond, List, [], ◌∷◌, map, Result, Ok, Err}
use Rattle.hilti_base.specs.declared.names.Place.{Place}
use Rattle.hilti_module.specs.declared.types.Name.{Name}
use Rattle.hilti_module.specs.declared.types.TypeText.{TypeText, roll-TypeText}
use Rattle.hilti_module.specs.declared.types.Container.{Container, roll-Container}
use Rattle.hilti_module.specs.declared.types.InnerText.{InnerText, roll-InnerText}
use Rattle.hilti_module.specs.declared.types.Parametric.{Parametric, roll-Parametric}
use Rattle.hilti_module.specs.declared.types.PlainInner.TheVariants as words
use Rattle.hilti_module.specs.declared.types.Single.{Single}
use Rattle.hilti_module.specs.declared.types.Single.TheVariants as singles
use Rattle.hilti_module.specs.declared.types.Double.{Double}
use Rattle.hilti_module.specs.declared.types.Container.TheFolds.{ind-TypeText, fold-roll-Container, fold-roll-InnerText, fold-roll-Parametric, fold-roll-TypeText, map-Container, map-InnerText, map-Parametric, map-TypeText}
use Rattle.hilti_module.specs.declared.types.Container.TheOpen.{Container-F, InnerText-F, Parametric-F, TypeText-F}
use Rattle.hilti_types.specs.declared.declared.Declared.{Declared}
use Rattle.hilti_types.specs.declared.value_type.ValueType.{ValueType}
use Rattle.hilti_types.specs.declared.value_type.ValueType.TheVariants as types
use Rattle.hilti_types.specs.declared.value_type.Inner.{Inner}
use Rattle.hilti_types.specs.declared.value_type.Inner.TheVariants as objects
use Rattle.hilti_types.specs.Keys.{key_over}
use Rattle.hilti_scope.specs.declared.meaning.Meaning.{Meaning}
use Rattle.hilti_scope.specs.declared.meaning.Meaning.TheVariants as means
use Rattle.hilti_resolve.specs.declared.inner_value.InnerValue.{InnerValue}
use Rattle.hilti_resolve.specs.declared.inner_value.InnerValue.TheVariants.{Object, BytesWord, NoObject}
use Rattle.hilti_resolve.specs.Values.{Read, plain_value, inner_word, named_value, named_inner, is_width, all_of, in_front, tuple_of, tuple_value, iterator_over, iterator_value, reference_value, single_value, takes, object_of, with_second, both_value, double_value, as_inner, container_reads, inner_reads, parametric_reads, type_reads, read_of, parametric_read_of, inner_read_of, container_read_of, value_of, parametric_value_of, inner_value_of, container_value_of}
use Rattle.hilti_resolve.specs.Written.{Written, Plain, Int, Tuple, NoPart, Part, Iterator, Ref, InnerWord, One, Two, Named, parts_of, reference_to, container_says, inner_says, parametric_says, type_says, says, parametric_writes, inner_writes, container_writes}

-- what is told of something by what it says: the type that it stands for, or the object, or the types of its parts
record Told : Type 0 where
  value : ValueType
  inner : InnerValue
  parts : List ValueType

abbrev of_value : ValueType → Told
of_value value = record { value = value; inner = NoObject; parts = [] }

abbrev of_inner : InnerValue → Told
of_inner inner = record { value = types.Bool; inner = inner; parts = [] }

abbrev of_parts : List ValueType → Told
of_parts parts = record { value = types.Bool; inner = NoObject; parts = parts }

abbrev iterated : InnerValue → ValueType
iterated (Object object) = types.Iter object
iterated BytesWord = types.Bool
iterated NoObject = types.Bool

abbrev referred : InnerValue → ValueType
referred (Object object) = types.Ref object
referred BytesWord = types.Bytes
referred NoObject = types.Bool

abbrev single_object : Single → ValueType → Inner
single_object singles.List item = objects.List item
single_object singles.Vector item = objects.Vector item
single_object singles.Set item = objects.Set item

abbrev named_type : Meaning → ValueType
named_type (means.Enum n) = types.Enum n
named_type _ = types.Bool

abbrev told : Written → Told
told (Plain plain) = of_value (plain_value plain)
told (Int bits) = of_value (types.Int bits)
told (Tuple parts) = (let inside = told parts in of_value (types.Tuple inside.parts))
told NoPart = of_parts []
told (Part first more) = (let one = told first in let rest = told more in of_parts (one.value ∷ rest.parts))
told (Iterator over) = (let inside = told over in of_value (iterated inside.inner))
told (Ref to) = (let inside = told to in of_value (referred inside.inner))
told (InnerWord word) = of_inner (inner_word word)
told (One single item) = (let inside = told item in of_inner (Object (single_object single inside.value)))
told (Two double first second) = (let one = told first in let other = told second in of_inner (Object (object_of double one.value other.value)))
told (Named meaning) = record { value = named_type meaning; inner = named_inner meaning; parts = [] }

-- the type that something written stands for, if it stands for one
abbrev pub type_told : Written → ValueType
type_told said = (let it = told said in it.value)

abbrev inner_told : Written → InnerValue
inner_told said = (let it = told said in it.inner)

abbrev parts_told : Written → List ValueType
parts_told said = (let it = told said in it.parts)

-- what a reference says tells the same as what it goes to
reference_told : (to : Written) → type_told (reference_to to) ≡ referred (inner_told to)
reference_told (Plain plain) = refl
reference_told (Int bits) = refl
reference_told (Tuple parts) = refl
reference_told NoPart = refl
reference_told (Part first more) = refl
reference_told (Iterator over) = refl
reference_told (Ref to) = refl
reference_told (InnerWord words.Bytes) = refl
reference_told (InnerWord words.Timer) = refl
reference_told (InnerWord words.Manager) = refl
reference_told (One single item) = refl
reference_told (Two double first second) = refl
reference_told (Named meaning) = refl

passes : {A : Type 0} (test : Bool) (first : Result A Place) (place : Place) (v : A) → cond test first (Err place) ≡ Ok v → first ≡ Ok v
passes true first place v e = e
passes false first place v e = cc

-- where something stands for a type, this is it
abbrev Is : {A : Type 0} → A → Result A Place → Type 0
Is {A} it stands = (v : A) → stands ≡ Ok v → it ≡ v

module _ (table : List Declared) where
  single_is : (place : Place) (single : Single) (item : ValueType) (stands : Result ValueType Place) → Is item stands
      → Is (single_object single item) (single_value table place single stands)
  single_is place single item (Err inside) is v e = cc
  single_is place singles.List item (Ok kind) is v e = (let same = is kind refl in let made : objects.List kind ≡ v = cc in ap (λ k. objects.List k) same ∙ made)
  single_is place singles.Vector item (Ok kind) is v e = (let same = is kind refl in let made : objects.Vector kind ≡ v = cc in ap (λ k. objects.Vector k) same ∙ made)
  single_is place singles.Set item (Ok kind) is v e =
      let same = is kind refl in
      let key = passes (key_over table kind) (Ok (objects.Set kind)) place v e in
      let made : objects.Set kind ≡ v = cc in ap (λ k. objects.Set k) same ∙ made

  second_is : (double : Double) (first second : ValueType) (stands : Result ValueType Place) → Is second stands
      → Is (object_of double first second) (with_second double first stands)
  second_is double first second (Err inside) is v e = cc
  second_is double first second (Ok kind) is v e =
      let same = is kind refl in
      let made : object_of double first kind ≡ v = cc in ap (λ k. object_of double first k) same ∙ made

  both_are : (place : Place) (double : Double) (first second : ValueType) (stands other : Result ValueType Place) → Is first stands → Is second other
      → Is (object_of double first second) (both_value table place double stands other)
  both_are place double first second (Err inside) other is also v e = cc
  both_are place double first second (Ok kind) other is also v e =
      ap (λ k. object_of double k second) (is kind refl)
      ∙ second_is double kind second other also v (passes (key_over table kind) (with_second double kind other) place v e)

  double_is : (place : Place) (double : Double) (first second : ValueType) (reads : Read ValueType) (other : Result ValueType Place)
      → Is first reads.stands → Is second other → Is (object_of double first second) (double_value table place double reads other)
  double_is place double first second reads other is also v e =
      both_are place double first second reads.stands other is also v (passes (takes double reads.form) (both_value table place double reads.stands other) place v e)

object_is : (it : InnerValue) (stands : Result Inner Place) → ((v : Inner) → stands ≡ Ok v → it ≡ Object v) → Is it (as_inner stands)
object_is it (Err inside) is v e = cc
object_is it (Ok object) is v e = (let same = is object refl in let made : Object object ≡ v = cc in same ∙ made)

iterator_is : (place : Place) (it : InnerValue) (over : Read InnerValue) → Is it over.stands → Is (iterated it) (iterator_value place over)
iterator_is place it over is v e = by over.stands is (passes over.form (iterator_over place over.stands) place v e)
  where
    by : (stands : Result InnerValue Place) → Is it stands → iterator_over place stands ≡ Ok v → iterated it ≡ v
    by (Err inside) is e = cc
    by (Ok (Object object)) is e = (let same = is (Object object) refl in let made : types.Iter object ≡ v = cc in ap iterated same ∙ made)
    by (Ok BytesWord) is e = cc
    by (Ok NoObject) is e = cc

reference_is : (place : Place) (it : InnerValue) (to : Result InnerValue Place) → Is it to → Is (referred it) (reference_value place to)
reference_is place it (Err inside) is v e = cc
reference_is place it (Ok (Object object)) is v e = (let same = is (Object object) refl in let made : types.Ref object ≡ v = cc in ap referred same ∙ made)
reference_is place it (Ok BytesWord) is v e = (let same = is BytesWord refl in let made : types.Bytes ≡ v = cc in ap referred same ∙ made)
reference_is place it (Ok NoObject) is v e = cc

named_is : (meaning : Meaning) (place : Place) → Is (named_type meaning) (named_value meaning place)
named_is (means.Enum n) place v e = cc
named_is means.Nothing place v e = cc
named_is (means.Local n) place v e = cc
named_is (means.Struct n) place v e = cc
named_is (means.Overlay n) place v e = cc
named_is (means.Exception n) place v e = cc
named_is (means.Global n) place v e = cc
named_is (means.Function n) place v e = cc
named_is (means.Hook n) place v e = cc

front_is : (first : ValueType) (more : List ValueType) (stands : Result ValueType Place) (rest : Result (List ValueType) Place) → Is first stands → Is more rest
    → Is (first ∷ more) (in_front stands rest)
front_is first more (Err place) rest is also v e = cc
front_is first more (Ok kind) (Err place) is also v e = cc
front_is first more (Ok kind) (Ok kinds) is also v e =
    let made : kind ∷ kinds ≡ v = cc in
    ap₂ (λ k l. k ∷ l) (is kind refl) (also kinds refl) ∙ made

tuple_is : (place : Place) (values : List ValueType) (parts : List (Read ValueType)) → Is values (all_of parts) → Is (types.Tuple values) (tuple_value place parts)
tuple_is place values parts is v e = by (all_of parts) is (passes _ (tuple_of (all_of parts)) place v e)
  where
    by : (all : Result (List ValueType) Place) → Is values all → tuple_of all ≡ Ok v → types.Tuple values ≡ v
    by (Err inside) is e = cc
    by (Ok kinds) is e = (let same = is kinds refl in let made : types.Tuple kinds ≡ v = cc in ap (λ l. types.Tuple l) same ∙ made)

module _ (table : List Declared) (mean : Name → Meaning) where
  -- what is to be shown of each type
  abbrev ContainerSays : Container → Type 0
  ContainerSays a = (v : Inner) → container_value_of table mean a ≡ Ok v → inner_told (container_writes mean a) ≡ Object v

  abbrev InnerSays : InnerText → Type 0
  InnerSays a = Is (inner_told (inner_writes mean a)) (inner_value_of table mean a)

  abbrev ParametricSays : Parametric → Type 0
  ParametricSays a = Is (type_told (parametric_writes mean a)) (parametric_value_of table mean a)

  abbrev TypeSays : TypeText → Type 0
  TypeSays a = Is (type_told (says mean a)) (value_of table mean a)

  -- one layer of each, with what is shown of the types in it
  abbrev Containers : Type 0
  Containers = (a : Container) × ContainerSays a

  abbrev Inners : Type 0
  Inners = (a : InnerText) × InnerSays a

  abbrev Parametrics : Type 0
  Parametrics = (a : Parametric) × ParametricSays a

  abbrev Types : Type 0
  Types = (a : TypeText) × TypeSays a

  abbrev container_bare : Container-F Containers Inners Parametrics Types → Container-F Container InnerText Parametric TypeText
  container_bare y = map-Container Containers Inners Parametrics Types Container InnerText Parametric TypeText (λ e. e.0) (λ e. e.0) (λ e. e.0) (λ e. e.0) y

  abbrev inner_bare : InnerText-F Containers Inners Parametrics Types → InnerText-F Container InnerText Parametric TypeText
  inner_bare y = map-InnerText Containers Inners Parametrics Types Container InnerText Parametric TypeText (λ e. e.0) (λ e. e.0) (λ e. e.0) (λ e. e.0) y

  abbrev parametric_bare : Parametric-F Containers Inners Parametrics Types → Parametric-F Container InnerText Parametric TypeText
  parametric_bare y = map-Parametric Containers Inners Parametrics Types Container InnerText Parametric TypeText (λ e. e.0) (λ e. e.0) (λ e. e.0) (λ e. e.0) y

  abbrev type_bare : TypeText-F Containers Inners Parametrics Types → TypeText-F Container InnerText Parametric TypeText
  type_bare y = map-TypeText Containers Inners Parametrics Types Container InnerText Parametric TypeText (λ e. e.0) (λ e. e.0) (λ e. e.0) (λ e. e.0) y

  -- what each layer reads and says
  abbrev container_read : Container-F Container InnerText Parametric TypeText → Read Inner
  container_read x = container_reads table (map-Container Container InnerText Parametric TypeText (Read Inner) (Read InnerValue) (Read ValueType) (Read ValueType)
      (container_read_of table mean) (inner_read_of table mean) (parametric_read_of table mean) (read_of table mean) x)

  abbrev inner_read : InnerText-F Container InnerText Parametric TypeText → Read InnerValue
  inner_read x = inner_reads mean (map-InnerText Container InnerText Parametric TypeText (Read Inner) (Read InnerValue) (Read ValueType) (Read ValueType)
      (container_read_of table mean) (inner_read_of table mean) (parametric_read_of table mean) (read_of table mean) x)

  abbrev parametric_read : Parametric-F Container InnerText Parametric TypeText → Read ValueType
  parametric_read x = parametric_reads (map-Parametric Container InnerText Parametric TypeText (Read Inner) (Read InnerValue) (Read ValueType) (Read ValueType)
      (container_read_of table mean) (inner_read_of table mean) (parametric_read_of table mean) (read_of table mean) x)

  abbrev type_read : TypeText-F Container InnerText Parametric TypeText → Read ValueType
  type_read x = type_reads mean (map-TypeText Container InnerText Parametric TypeText (Read Inner) (Read InnerValue) (Read ValueType) (Read ValueType)
      (container_read_of table mean) (inner_read_of table mean) (parametric_read_of table mean) (read_of table mean) x)

  abbrev container_said : Container-F Container InnerText Parametric TypeText → Written
  container_said x = container_says (map-Container Container InnerText Parametric TypeText Written Written Written Written
      (container_writes mean) (inner_writes mean) (parametric_writes mean) (says mean) x)

  abbrev inner_said : InnerText-F Container InnerText Parametric TypeText → Written
  inner_said x = inner_says mean (map-InnerText Container InnerText Parametric TypeText Written Written Written Written
      (container_writes mean) (inner_writes mean) (parametric_writes mean) (says mean) x)

  abbrev parametric_said : Parametric-F Container InnerText Parametric TypeText → Written
  parametric_said x = parametric_says (map-Parametric Container InnerText Parametric TypeText Written Written Written Written
      (container_writes mean) (inner_writes mean) (parametric_writes mean) (says mean) x)

  abbrev type_said : TypeText-F Container InnerText Parametric TypeText → Written
  type_said x = type_says mean (map-TypeText Container InnerText Parametric TypeText Written Written Written Written
      (container_writes mean) (inner_writes mean) (parametric_writes mean) (says mean) x)

  container_layer : (y : Container-F Containers Inners Parametrics Types) (v : Inner) → (container_read (container_bare y)).stands ≡ Ok v
      → inner_told (container_said (container_bare y)) ≡ Object v
  container_layer (Container-F.Single place single item) v e =
      ap (λ o. Object o) (single_is table place single (type_told (says mean item.0)) (value_of table mean item.0) item.1 v e)
  container_layer (Container-F.Double place double first second) v e =
      ap (λ o. Object o) (double_is table place double (type_told (says mean first.0)) (type_told (says mean second.0)) (read_of table mean first.0) (value_of table mean second.0) first.1 second.1 v e)

  inner_layer : (y : InnerText-F Containers Inners Parametrics Types) → Is (inner_told (inner_said (inner_bare y))) (inner_read (inner_bare y)).stands
  inner_layer (InnerText-F.Word place word) v e = cc
  inner_layer (InnerText-F.Container container) v e = object_is (inner_told (container_writes mean container.0)) (container_value_of table mean container.0) container.1 v e
  inner_layer (InnerText-F.Declared name) v e = cc

  parts_are : (each : List Types) → Is (parts_told (parts_of (map (says mean) (map (λ e. e.0) each)))) (all_of (map (read_of table mean) (map (λ e. e.0) each)))
  unfolding parts_of all_of
  parts_are [] v e = cc
  parts_are (part ∷ more) v e =
      front_is (type_told (says mean part.0)) (parts_told (parts_of (map (says mean) (map (λ e. e.0) more)))) (value_of table mean part.0)
      (all_of (map (read_of table mean) (map (λ e. e.0) more))) part.1 (parts_are more) v e

  parametric_layer : (y : Parametric-F Containers Inners Parametrics Types) → Is (type_told (parametric_said (parametric_bare y))) (parametric_read (parametric_bare y)).stands
  parametric_layer (Parametric-F.Int place bits) v e = (let it = passes (is_width bits.value) (Ok (types.Int bits.value)) place v e in cc)
  parametric_layer (Parametric-F.Tuple place parts) v e =
      tuple_is place (parts_told (parts_of (map (says mean) (map (λ e. e.0) parts)))) (map (read_of table mean) (map (λ e. e.0) parts)) (parts_are parts) v e
  parametric_layer (Parametric-F.Iterator place over) v e = iterator_is place (inner_told (inner_writes mean over.0)) (inner_read_of table mean over.0) over.1 v e
  parametric_layer (Parametric-F.Ref place to) v e =
      reference_told (inner_writes mean to.0) ∙ reference_is place (inner_told (inner_writes mean to.0)) (inner_value_of table mean to.0) to.1 v e

  type_layer : (y : TypeText-F Containers Inners Parametrics Types) → Is (type_told (type_said (type_bare y))) (type_read (type_bare y)).stands
  type_layer (TypeText-F.Plain place plain) v e = cc
  type_layer (TypeText-F.Parametric parametric) v e = parametric.1 v e
  type_layer (TypeText-F.Named name) v e = named_is (mean name) name.first.place v e

  container_step : (x : Container-F Container InnerText Parametric TypeText) (y : Container-F Containers Inners Parametrics Types) → container_bare y ≡ x → ContainerSays (roll-Container x)
  container_step x y is v e =
      ap inner_told (fold-roll-Container Written Written Written Written container_says (inner_says mean) parametric_says (type_says mean) x)
      ∙ subst (λ x. (v : Inner) → (container_read x).stands ≡ Ok v → inner_told (container_said x) ≡ Object v) is (container_layer y) v
      (ap (λ (r : Read Inner). r.stands) (sym (fold-roll-Container (Read Inner) (Read InnerValue) (Read ValueType) (Read ValueType) (container_reads table) (inner_reads mean) parametric_reads (type_reads mean) x)) ∙ e)

  inner_step : (x : InnerText-F Container InnerText Parametric TypeText) (y : InnerText-F Containers Inners Parametrics Types) → inner_bare y ≡ x → InnerSays (roll-InnerText x)
  inner_step x y is v e =
      ap inner_told (fold-roll-InnerText Written Written Written Written container_says (inner_says mean) parametric_says (type_says mean) x)
      ∙ subst (λ x. Is (inner_told (inner_said x)) (inner_read x).stands) is (inner_layer y) v
      (ap (λ (r : Read InnerValue). r.stands) (sym (fold-roll-InnerText (Read Inner) (Read InnerValue) (Read ValueType) (Read ValueType) (container_reads table) (inner_reads mean) parametric_reads (type_reads mean) x)) ∙ e)

  parametric_step : (x : Parametric-F Container InnerText Parametric TypeText) (y : Parametric-F Containers Inners Parametrics Types) → parametric_bare y ≡ x → ParametricSays (roll-Parametric x)
  parametric_step x y is v e =
      ap type_told (fold-roll-Parametric Written Written Written Written container_says (inner_says mean) parametric_says (type_says mean) x)
      ∙ subst (λ x. Is (type_told (parametric_said x)) (parametric_read x).stands) is (parametric_layer y) v
      (ap (λ (r : Read ValueType). r.stands) (sym (fold-roll-Parametric (Read Inner) (Read InnerValue) (Read ValueType) (Read ValueType) (container_reads table) (inner_reads mean) parametric_reads (type_reads mean) x)) ∙ e)

  type_step : (x : TypeText-F Container InnerText Parametric TypeText) (y : TypeText-F Containers Inners Parametrics Types) → type_bare y ≡ x → TypeSays (roll-TypeText x)
  type_step x y is v e =
      ap type_told (fold-roll-TypeText Written Written Written Written container_says (inner_says mean) parametric_says (type_says mean) x)
      ∙ subst (λ x. Is (type_told (type_said x)) (type_read x).stands) is (type_layer y) v
      (ap (λ (r : Read ValueType). r.stands) (sym (fold-roll-TypeText (Read Inner) (Read InnerValue) (Read ValueType) (Read ValueType) (container_reads table) (inner_reads mean) parametric_reads (type_reads mean) x)) ∙ e)

  -- a written type that stands for a type stands for the one that is told by what it says
  pub stands_as_told : (text : TypeText) (v : ValueType) → value_of table mean text ≡ Ok v → type_told (says mean text) ≡ v
  stands_as_told text v e = ind-TypeText ContainerSays InnerSays ParametricSays TypeSays container_step inner_step parametric_step type_step text v e
