-- What lines on structs and tuples meet, and targets that follow what is known.
use Rattle.std.proofs.Common.{◌≡◌, ℕ, true, List, [], ◌∷◌, refl, sym, ap, map, slice_get, Option, Some, None, IsSomeAnd, IsSome, is_some}
use Rattle.std.proofs.lemmas.Bool.{false≢true}
use Rattle.std.proofs.Math.Path.{subst}
use Rattle.std.specs.Option.{option_map, option_and_then}
use Rattle.hilti_types.specs.declared.value_type.Inner.{Inner}
use Rattle.hilti_types.specs.declared.value_type.Inner.TheVariants as inners
use Rattle.hilti_types.specs.declared.value_type.ValueType.{ValueType}
use Rattle.hilti_types.specs.declared.value_type.ValueType.TheVariants as types
use Rattle.hilti_table.specs.declared.row.Family.TheVariants as families
use Rattle.hilti_table.specs.declared.row.Gives.{Gives}
use Rattle.hilti_table.specs.declared.row.Kind.TheVariants.{Own, Field, Same, Parts, Index}
use Rattle.hilti_table.specs.declared.row.Test.TheVariants as tests
use Rattle.hilti_parts.specs.declared.parts.Operand.{Operand}
use Rattle.hilti_parts.specs.Named.{given_kind}
use Rattle.hilti_parts.specs.Named.{grouped}
use Rattle.hilti_typing.specs.Context.{Context, Setting, Known}
use Rattle.hilti_typing.specs.Types.{item_of}
use Rattle.hilti_typing.specs.Fits.{Has, HasKnown, Needs, Gets, Fit, AsksOwn, AreParts, knowing, known_type}
use Rattle.hilti_typing.specs.Fits.{field, field_type, field_number, literal_number, tuple_part, given}
use Rattle.hilti_typing.specs.Facts.{FieldOfStruct, PartOfTuple, TupleParts}
use Rattle.hilti_typing.specs.Laws.{StructRows, TupleRows, PassedTests, Targets}
use Rattle.hilti_typing.proofs.Meeting.{own}
use Rattle.hilti_typing.proofs.Objects.{referring, needed}
use Rattle.hilti_typing.proofs.Shapes as shapes

-- what is there, behind a number that is there
pub there : {A B : Type 0} (f : A → Option B) (x : Option A) (found : Option B) → option_and_then f x ≡ found → is_some found ≡ true →
    (a : A) × (b : B) × (x ≡ Some a) × (f a ≡ Some b) × (found ≡ Some b)
there f None None e is = absurd (false≢true is)
there f (Some a) None e is = absurd (false≢true is)
there f (Some a) (Some b) e is = (a, b, refl, e, refl)
there f None (Some b) e is = absurd (false≢true (ap is_some e))

-- the field that a name means where the struct is known
field_of : (c : Context) (o : Inner) (x : Operand) → field c (Known.Of (types.Ref o)) x ≡ option_and_then (field_type c o) (field_number x)
field_of c o x = ap (λ to. option_and_then (λ (n : ℕ). option_and_then (λ (o : Inner). field_type c o n) to) (field_number x)) (shapes.refers o)

struct_field : (s : Setting) (x y : Operand) (more : List Operand) (n : ℕ) (rest : Known → Type 0) → Has s.context (types.Ref (inners.Struct n)) x →
    IsSome (field s.context (Known.Of (types.Ref (inners.Struct n))) y) → rest (knowing (field s.context (Known.Of (types.Ref (inners.Struct n))) y)) →
    (f : FieldOfStruct more s (x ∷ y ∷ more)) × rest (Known.Of f.kind)
struct_field s x y more n rest has is further =
    let it = there (field_type s.context (inners.Struct n)) (field_number y) (field s.context (Known.Of (types.Ref (inners.Struct n))) y)
    (sym (field_of s.context (inners.Struct n) y)) is in (
      record { holder = x; name = y; struct_number = n; at = it.0; kind = it.1; are = refl; holder_is = has; written = it.2; field_is = it.3 },
      subst (λ found. rest (knowing found)) it.4 further,
    )

structed : (s : Setting) (x y : Operand) (more : List Operand) (rest : Known → Type 0) → AsksOwn s.context (tests.Object families.Struct) x →
    IsSome (field s.context (knowing (given_kind x)) y) → rest (knowing (field s.context (knowing (given_kind x)) y)) →
    (f : FieldOfStruct more s (x ∷ y ∷ more)) × rest (Known.Of f.kind)
structed s x y more rest asks is further =
    let it = referring s families.Struct x (λ k. IsSome (field s.context k y) × rest (knowing (field s.context k y))) asks (is, further) in
    let form = shapes.struct it.0 it.1 in
    let found = subst (λ o. Has s.context (types.Ref o) x × IsSome (field s.context (Known.Of (types.Ref o)) y)
    × rest (knowing (field s.context (Known.Of (types.Ref o)) y))) form.1 (it.2, it.3.0, it.3.1) in
    struct_field s x y more form.0 rest found.0 found.1 found.2

field_row : (s : Setting) (g : Gives) (items : List Operand) → Fit s g (Own (tests.Object families.Struct) ∷ Field ∷ []) Known.Nothing items →
    (f : FieldOfStruct [] s items) × Gets s g (Known.Of f.kind)
unfolding Fit
field_row s g [] fit = absurd fit
field_row s g (x ∷ []) fit = absurd fit.1
field_row s g (x ∷ y ∷ []) fit = structed s x y [] (λ k. Gets s g k) fit.0 fit.1.0 fit.1.1
field_row s g (x ∷ y ∷ z ∷ more) fit = absurd fit.1.1

field_and_value : (s : Setting) (g : Gives) (items : List Operand) → Fit s g (Own (tests.Object families.Struct) ∷ Field ∷ Same ∷ []) Known.Nothing items →
    (x : Operand) × (f : FieldOfStruct (x ∷ []) s items) × Has s.context f.kind x × Gets s g (Known.Of f.kind)
unfolding Fit
field_and_value s g [] fit = absurd fit
field_and_value s g (x ∷ []) fit = absurd fit.1
field_and_value s g (x ∷ y ∷ []) fit = absurd fit.1.1
field_and_value s g (x ∷ y ∷ z ∷ []) fit =
    let it = structed s x y (z ∷ []) (λ k. HasKnown s.context (known_type k) z × Gets s g k) fit.0 fit.1.0 fit.1.1 in
    (z, it.0, it.1.0, it.1.1)
field_and_value s g (x ∷ y ∷ z ∷ w ∷ more) fit = absurd fit.1.1.1

pub struct_rows : StructRows
struct_rows = record {
  field = λ s g r f items fits. field_row s g items fits.fit;
  value = λ s g r f items fits. field_and_value s g items fits.fit;
}

-- tuples
parts_in : (s : Setting) (x : Operand) (group : Option (List Operand)) (rest : Known → Type 0) → grouped x ≡ group → IsSomeAnd group (AreParts s.context) →
    rest (knowing (option_map (λ (items : List Operand). types.Tuple (map given items)) group)) →
    (p : TupleParts s (x ∷ [])) × rest (Known.Of (types.Tuple (map given p.values)))
parts_in s x None rest e are more = absurd are
parts_in s x (Some values) rest e are more = (record { group = x; values = values; are = refl; groups = e; each = are }, more)

make_row : (s : Setting) (g : Gives) (items : List Operand) → Fit s g (Parts ∷ []) Known.Nothing items →
    (p : TupleParts s items) × Gets s g (Known.Of (types.Tuple (map given p.values)))
unfolding Fit
make_row s g [] fit = absurd fit
make_row s g (x ∷ []) fit = parts_in s x (grouped x) (λ k. Gets s g k) refl fit.0 fit.1
make_row s g (x ∷ y ∷ more) fit = absurd fit.1

part_of_tuple : (parts : List ValueType) (x : Operand) → tuple_part (Known.Of (types.Tuple parts)) x ≡ option_and_then (λ (n : ℕ). slice_get parts n) (literal_number x)
part_of_tuple parts x = ap (λ found. option_and_then (λ (n : ℕ). slice_get found n) (literal_number x)) (shapes.tuple_parts parts)

tuple_and_part : (s : Setting) (x y : Operand) (parts : List ValueType) (rest : Known → Type 0) → Has s.context (types.Tuple parts) x →
    IsSome (tuple_part (Known.Of (types.Tuple parts)) y) → rest (knowing (tuple_part (Known.Of (types.Tuple parts)) y)) →
    (p : PartOfTuple s (x ∷ y ∷ [])) × rest (Known.Of p.kind)
tuple_and_part s x y parts rest has is further =
    let it = there (λ (n : ℕ). slice_get parts n) (literal_number y) (tuple_part (Known.Of (types.Tuple parts)) y) (sym (part_of_tuple parts y)) is in (
      record { tuple = x; place = y; parts = parts; at = it.0; kind = it.1; are = refl; tuple_is = has; written = it.2; part_is = it.3 },
      subst (λ found. rest (knowing found)) it.4 further,
    )

tupled : (s : Setting) (x y : Operand) (rest : Known → Type 0) → AsksOwn s.context tests.Tuple x →
    IsSome (tuple_part (knowing (given_kind x)) y) → rest (knowing (tuple_part (knowing (given_kind x)) y)) →
    (p : PartOfTuple s (x ∷ y ∷ [])) × rest (Known.Of p.kind)
tupled s x y rest asks is further =
    let it = own s tests.Tuple x (λ k. IsSome (tuple_part k y) × rest (knowing (tuple_part k y))) asks (is, further) in
    let form = shapes.tuple s.context.declared it.0 it.1 in
    let found = subst (λ t. Has s.context t x × IsSome (tuple_part (Known.Of t) y) × rest (knowing (tuple_part (Known.Of t) y))) form.1 (it.2, it.3.0, it.3.1) in
    tuple_and_part s x y form.0 rest found.0 found.1 found.2

get_row : (s : Setting) (g : Gives) (items : List Operand) → Fit s g (Own tests.Tuple ∷ Index ∷ []) Known.Nothing items →
    (p : PartOfTuple s items) × Gets s g (Known.Of p.kind)
unfolding Fit
get_row s g [] fit = absurd fit
get_row s g (x ∷ []) fit = absurd fit.1
get_row s g (x ∷ y ∷ []) fit = tupled s x y (λ k. Gets s g k) fit.0 fit.1.0 fit.1.1
get_row s g (x ∷ y ∷ z ∷ more) fit = absurd fit.1.1

pub tuple_rows : TupleRows
tuple_rows = record {
  make = λ s g r f items fits. make_row s g items fits.fit;
  get = λ s g r f items fits. get_row s g items fits.fit;
}

-- types that pass tests, and targets
pub passed_tests : PassedTests
passed_tests = record { int = shapes.int; tuple = shapes.tuple; iterator = shapes.iterator }

pub targets : Targets
targets = record {
  same = λ s t gets. needed s.target t gets;
  iterator = λ s o gets. needed s.target (types.Iter o) (subst (λ to. Needs s.target (option_map types.Iter to)) (shapes.refers o) gets);
  item = λ s o gets. subst (λ over. Needs s.target (option_and_then item_of over)) (shapes.goes_over o) gets;
}
