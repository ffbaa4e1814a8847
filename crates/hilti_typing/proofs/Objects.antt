-- What lines on objects meet.
use Rattle.std.proofs.Common.{◌≡◌, List, [], ◌∷◌, refl, sym, ap, ◌∙◌, Option, Some, None, IsSomeAnd, IsTrue}
use Rattle.std.proofs.Math.Path.{subst}
use Rattle.std.specs.Option.{option_map, option_and_then}
use Rattle.hilti_types.specs.declared.value_type.Inner.{Inner}
use Rattle.hilti_types.specs.declared.value_type.Inner.TheVariants as inners
use Rattle.hilti_types.specs.declared.value_type.ValueType.{ValueType}
use Rattle.hilti_types.specs.declared.value_type.ValueType.TheVariants as types
use Rattle.hilti_table.specs.declared.row.Family.{Family}
use Rattle.hilti_table.specs.declared.row.Family.TheVariants as families
use Rattle.hilti_table.specs.declared.row.Gives.{Gives}
use Rattle.hilti_table.specs.declared.row.Gives.TheVariants as gives
use Rattle.hilti_table.specs.declared.row.Kind.TheVariants.{Fixed, Own, Part, New, Mode}
use Rattle.hilti_table.specs.declared.row.Part.{Part as PartOf}
use Rattle.hilti_table.specs.declared.row.Part.TheVariants as parts
use Rattle.hilti_table.specs.declared.row.Plain.{Plain}
use Rattle.hilti_table.specs.declared.row.Test.TheVariants as tests
use Rattle.hilti_parts.specs.declared.parts.Operand.{Operand}
use Rattle.hilti_parts.specs.Named.{given_kind}
use Rattle.hilti_typing.specs.Context.{Setting, Known}
use Rattle.hilti_typing.specs.Types.{plain_type, part_of, can_be_made}
use Rattle.hilti_typing.specs.Fits.{Has, HasKnown, HaveAll, Needs, Gets, Fit, AsksOwn, knowing, known_part, made}
use Rattle.hilti_typing.specs.Facts.{IsOf, MadeObject, TimeoutOf}
use Rattle.hilti_typing.specs.Laws.{ObjectRows, ItemRows, MapRows}
use Rattle.hilti_typing.proofs.Meeting.{own}
use Rattle.hilti_typing.proofs.Shapes as shapes

-- a reference to an object of a family, whose type is known behind it
pub referring : (s : Setting) (family : Family) (x : Operand) (rest : Known → Type 0) → AsksOwn s.context (tests.Object family) x → rest (knowing (given_kind x)) →
    (o : Inner) × IsOf family o × Has s.context (types.Ref o) x × rest (Known.Of (types.Ref o))
referring s family x rest asks more =
    let it = own s (tests.Object family) x rest asks more in
    let to = shapes.reference family it.0 it.1 in
    (to.0, to.2, subst (λ t. Has s.context t x) to.1 it.2, subst (λ t. rest (Known.Of t)) to.1 it.3)

-- the same where the type of the object is of a form
formed : {A : Type 0} (of : A → Inner) (s : Setting) (family : Family) (forms : (o : Inner) → IsOf family o → (a : A) × (o ≡ of a)) (x : Operand) (rest : Known → Type 0) →
    AsksOwn s.context (tests.Object family) x → rest (knowing (given_kind x)) →
    (a : A) × Has s.context (types.Ref (of a)) x × rest (Known.Of (types.Ref (of a)))
formed of s family forms x rest asks more =
    let it = referring s family x rest asks more in
    let form = forms it.0 it.1 in
    (form.0, subst (λ o. Has s.context (types.Ref o) x) form.1 it.2, subst (λ o. rest (Known.Of (types.Ref o))) form.1 it.3)

-- a part of an object that is known
pub part_known : (part : PartOf) (o : Inner) (t : ValueType) → part_of part o ≡ Some t → known_part part (Known.Of (types.Ref o)) ≡ Some t
part_known part o t e = ap (λ to. option_and_then (part_of part) to) (shapes.refers o) ∙ e

pub needed : (target : Option ValueType) (t : ValueType) → Needs target (Some t) → target ≡ Some t
needed None t is = absurd is
needed (Some u) t is = sym is

made_of : (s : Setting) (x : Operand) (what : Option Inner) (rest : Known → Type 0) → made x ≡ what → IsSomeAnd what (λ o. IsTrue (can_be_made o)) →
    rest (knowing (option_map types.Ref what)) → (m : MadeObject s (x ∷ [])) × rest (Known.Of (types.Ref m.object))
made_of s x None rest e can more = absurd can
made_of s x (Some o) rest e can more = (record { word = x; object = o; are = refl; names = e; can = can }, more)

new_object : (s : Setting) (g : Gives) (items : List Operand) → Fit s g (New ∷ []) Known.Nothing items →
    (m : MadeObject s items) × Gets s g (Known.Of (types.Ref m.object))
unfolding Fit
new_object s g [] fit = absurd fit
new_object s g (x ∷ []) fit = made_of s x (made x) (λ k. Gets s g k) refl fit.0 fit.1
new_object s g (x ∷ y ∷ more) fit = absurd fit.1

one_object : (s : Setting) (g : Gives) (family : Family) (items : List Operand) → Fit s g (Own (tests.Object family) ∷ []) Known.Nothing items →
    (o : Inner) × IsOf family o × HaveAll s.context (types.Ref o ∷ []) items × Gets s g (Known.Of (types.Ref o))
unfolding Fit
one_object s g family [] fit = absurd fit
one_object s g family (x ∷ []) fit = let it = referring s family x (λ k. Gets s g k) fit.0 fit.1 in (it.0, it.1, (it.2, tt), it.3)
one_object s g family (x ∷ y ∷ more) fit = absurd fit.1

object_and_value : (s : Setting) (g : Gives) (family : Family) (a : Plain) (items : List Operand) →
    Fit s g (Own (tests.Object family) ∷ Fixed a ∷ []) Known.Nothing items →
    (o : Inner) × IsOf family o × HaveAll s.context (types.Ref o ∷ plain_type a ∷ []) items × Gets s g (Known.Of (types.Ref o))
unfolding Fit
object_and_value s g family a [] fit = absurd fit
object_and_value s g family a (x ∷ []) fit = absurd fit.1
object_and_value s g family a (x ∷ y ∷ []) fit = let it = referring s family x (λ k. Gets s g k) fit.0 fit.1.1 in (it.0, it.1, (it.2, (fit.1.0, tt)), it.3)
object_and_value s g family a (x ∷ y ∷ z ∷ more) fit = absurd fit.1.1

timeout_of : (s : Setting) (g : Gives) (family : Family) (a b : Plain) (items : List Operand) →
    Fit s g (Own (tests.Object family) ∷ Mode ∷ Fixed a ∷ Fixed b ∷ []) Known.Nothing items →
    (o : Inner) × IsOf family o × TimeoutOf (types.Ref o) a b s items × Gets s g (Known.Of (types.Ref o))
unfolding Fit
timeout_of s g family a b [] fit = absurd fit
timeout_of s g family a b (x ∷ []) fit = absurd fit.1
timeout_of s g family a b (x ∷ y ∷ []) fit = absurd fit.1.1
timeout_of s g family a b (x ∷ y ∷ z ∷ []) fit = absurd fit.1.1.1
timeout_of s g family a b (x ∷ y ∷ z ∷ w ∷ []) fit =
    let it = referring s family x (λ k. Gets s g k) fit.0 fit.1.1.1.1 in
    (it.0, it.1, record { object = x; mode = y; first = z; second = w; are = refl; object_is = it.2; mode_is = fit.1.0; first_is = fit.1.1.0; second_is = fit.1.1.1.0 }, it.3)
timeout_of s g family a b (x ∷ y ∷ z ∷ w ∷ v ∷ more) fit = absurd fit.1.1.1.1

pub object_rows : ObjectRows
object_rows = record {
  made = λ s g r f items fits. new_object s g items fits.fit;
  one = λ family s g r f items fits. one_object s g family items fits.fit;
  number = λ family a s g r f items fits. object_and_value s g family a items fits.fit;
  timeout = λ family a b s g r f items fits. timeout_of s g family a b items fits.fit;
}

-- what is asked of a known part is asked of its type
pub of_part : (s : Setting) (part : PartOf) (o : Inner) (t : ValueType) (x : Operand) → part_of part o ≡ Some t →
    HasKnown s.context (known_part part (Known.Of (types.Ref o))) x → Has s.context t x
of_part s part o t x e has = subst (λ known. HasKnown s.context known x) (part_known part o t e) has

pub target_of : (s : Setting) (part : PartOf) (o : Inner) (t : ValueType) → part_of part o ≡ Some t →
    Gets s (gives.Part part) (Known.Of (types.Ref o)) → s.target ≡ Some t
target_of s part o t e gets = needed s.target t (subst (Needs s.target) (part_known part o t e) gets)

module _ (family : Family) (of : ValueType → Inner) (forms : (o : Inner) → IsOf family o → (t : ValueType) × (o ≡ of t))
    (first : (t : ValueType) → part_of parts.First (of t) ≡ Some t) where
  object_and_item : (s : Setting) (g : Gives) (items : List Operand) → Fit s g (Own (tests.Object family) ∷ Part parts.First ∷ []) Known.Nothing items →
      (t : ValueType) × HaveAll s.context (types.Ref (of t) ∷ t ∷ []) items × Gets s g (Known.Of (types.Ref (of t)))
  unfolding Fit
  object_and_item s g [] fit = absurd fit
  object_and_item s g (x ∷ []) fit = absurd fit.1
  object_and_item s g (x ∷ y ∷ []) fit =
      let it = formed of s family forms x (λ k. HasKnown s.context (known_part parts.First k) y × Gets s g k) fit.0 fit.1 in
      (it.0, (it.1, (of_part s parts.First (of it.0) it.0 y (first it.0) it.2.0, tt)), it.2.1)
  object_and_item s g (x ∷ y ∷ z ∷ more) fit = absurd fit.1.1

  object_place_item : (s : Setting) (g : Gives) (a : Plain) (items : List Operand) →
      Fit s g (Own (tests.Object family) ∷ Fixed a ∷ Part parts.First ∷ []) Known.Nothing items →
      (t : ValueType) × HaveAll s.context (types.Ref (of t) ∷ plain_type a ∷ t ∷ []) items × Gets s g (Known.Of (types.Ref (of t)))
  unfolding Fit
  object_place_item s g a [] fit = absurd fit
  object_place_item s g a (x ∷ []) fit = absurd fit.1
  object_place_item s g a (x ∷ y ∷ []) fit = absurd fit.1.1
  object_place_item s g a (x ∷ y ∷ z ∷ []) fit =
      let it = formed of s family forms x (λ k. HasKnown s.context (known_part parts.First k) z × Gets s g k) fit.0 fit.1.1 in
      (it.0, (it.1, (fit.1.0, (of_part s parts.First (of it.0) it.0 z (first it.0) it.2.0, tt))), it.2.1)
  object_place_item s g a (x ∷ y ∷ z ∷ w ∷ more) fit = absurd fit.1.1.1

  pub item_rows : ItemRows family of
  item_rows = record {
    objects = forms;
    item = λ s g r f items fits. object_and_item s g items fits.fit;
    place = λ a s g r f items fits. object_place_item s g a items fits.fit;
    target = λ s t gets. target_of s parts.First (of t) t (first t) gets;
  }

pub lists : ItemRows families.List inners.List
lists = item_rows families.List inners.List shapes.list shapes.list_item

pub vectors : ItemRows families.Vector inners.Vector
vectors = item_rows families.Vector inners.Vector shapes.vector shapes.vector_item

pub sets : ItemRows families.Set inners.Set
sets = item_rows families.Set inners.Set shapes.set shapes.set_item

-- maps
mapped : (s : Setting) (x : Operand) (rest : Known → Type 0) → AsksOwn s.context (tests.Object families.Map) x → rest (knowing (given_kind x)) →
    (k : ValueType) × (v : ValueType) × Has s.context (types.Ref (inners.Map k v)) x × rest (Known.Of (types.Ref (inners.Map k v)))
mapped s x rest asks more =
    let it = referring s families.Map x rest asks more in
    let form = shapes.a_map it.0 it.1 in
    (form.0, form.1, subst (λ o. Has s.context (types.Ref o) x) form.2 it.2, subst (λ o. rest (Known.Of (types.Ref o))) form.2 it.3)

map_and_key : (s : Setting) (g : Gives) (items : List Operand) → Fit s g (Own (tests.Object families.Map) ∷ Part parts.First ∷ []) Known.Nothing items →
    (k : ValueType) × (v : ValueType) × HaveAll s.context (types.Ref (inners.Map k v) ∷ k ∷ []) items × Gets s g (Known.Of (types.Ref (inners.Map k v)))
unfolding Fit
map_and_key s g [] fit = absurd fit
map_and_key s g (x ∷ []) fit = absurd fit.1
map_and_key s g (x ∷ y ∷ []) fit =
    let it = mapped s x (λ known. HasKnown s.context (known_part parts.First known) y × Gets s g known) fit.0 fit.1 in
    (it.0, it.1, (it.2, (of_part s parts.First (inners.Map it.0 it.1) it.0 y (shapes.map_key it.0 it.1) it.3.0, tt)), it.3.1)
map_and_key s g (x ∷ y ∷ z ∷ more) fit = absurd fit.1.1

map_key_value : (s : Setting) (g : Gives) (items : List Operand) →
    Fit s g (Own (tests.Object families.Map) ∷ Part parts.First ∷ Part parts.Second ∷ []) Known.Nothing items →
    (k : ValueType) × (v : ValueType) × HaveAll s.context (types.Ref (inners.Map k v) ∷ k ∷ v ∷ []) items × Gets s g (Known.Of (types.Ref (inners.Map k v)))
unfolding Fit
map_key_value s g [] fit = absurd fit
map_key_value s g (x ∷ []) fit = absurd fit.1
map_key_value s g (x ∷ y ∷ []) fit = absurd fit.1.1
map_key_value s g (x ∷ y ∷ z ∷ []) fit =
    let it = mapped s x (λ known. HasKnown s.context (known_part parts.First known) y × (HasKnown s.context (known_part parts.Second known) z × Gets s g known)) fit.0 fit.1 in
    let key = of_part s parts.First (inners.Map it.0 it.1) it.0 y (shapes.map_key it.0 it.1) it.3.0 in
    let value = of_part s parts.Second (inners.Map it.0 it.1) it.1 z (shapes.map_value it.0 it.1) it.3.1.0 in
    (it.0, it.1, (it.2, (key, (value, tt))), it.3.1.1)
map_key_value s g (x ∷ y ∷ z ∷ w ∷ more) fit = absurd fit.1.1.1

pub map_rows : MapRows
map_rows = record {
  objects = shapes.a_map;
  key = λ s g r f items fits. map_and_key s g items fits.fit;
  value = λ s g r f items fits. map_key_value s g items fits.fit;
  target = λ s k v gets. target_of s parts.Second (inners.Map k v) v (shapes.map_value k v) gets;
}
