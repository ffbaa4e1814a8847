-- What is read of the type of an object is that of one that can be made.
use Rattle.std.proofs.Common.{◌≡◌, ◌∙◌, Bool, true, false, cond, IsTrue, sym, refl, ap, subst, List, Option, Some, None, Ok, Err, rules}
use Rattle.std.specs.Prelude.{Result, IsSomeAnd}
use Rattle.hilti_base.specs.declared.names.Place.{Place}
use Rattle.hilti_base.specs.declared.refusal.Refusal.{Refusal}
use Rattle.hilti_types.specs.Keys.{key_over}
use Rattle.hilti_types.specs.declared.declared.Declared.{Declared}
use Rattle.hilti_types.specs.declared.value_type.Inner.{Inner}
use Rattle.hilti_types.specs.declared.value_type.Inner.TheVariants as inners
use Rattle.hilti_types.specs.declared.value_type.ValueType.{ValueType}
use Rattle.hilti_module.specs.declared.types.Name.{Name}
use Rattle.hilti_module.specs.declared.types.Single.{Single}
use Rattle.hilti_module.specs.declared.types.Single.TheVariants as singles
use Rattle.hilti_module.specs.declared.types.Double.{Double}
use Rattle.hilti_module.specs.declared.types.Double.TheVariants as doubles
use Rattle.hilti_module.specs.declared.types.TypeText.{TypeText}
use Rattle.hilti_module.specs.declared.types.InnerText.{InnerText}
use Rattle.hilti_module.specs.declared.types.Parametric.{Parametric}
use Rattle.hilti_module.specs.declared.types.Container.{Container, out-Container, roll-Container, roll-out-Container}
use Rattle.hilti_module.specs.declared.types.Container.TheVariants as containers
use Rattle.hilti_module.specs.declared.types.Container.TheOpen.{Container-F}
use Rattle.hilti_module.specs.declared.types.Container.TheFolds.{the_lemmas}
use Rattle.hilti_module.specs.declared.module.Simple.{Simple}
use Rattle.hilti_module.specs.declared.module.Simple.TheVariants as simples
use Rattle.hilti_scope.specs.declared.meaning.Meaning.{Meaning}
use Rattle.hilti_scope.specs.declared.meaning.Meaning.TheVariants as means
use Rattle.hilti_resolve.specs.Containers.{container_refusal, container_start}
use Rattle.hilti_resolve.specs.Values.{Read, read, read_of, container_read_of, container_value_of, single_value, double_value, both_value, with_second, takes, is_map}
use Rattle.hilti_parts.specs.declared.parts.Operand.{Operand}
use Rattle.hilti_parts.specs.declared.parts.Operand.TheVariants as operands
use Rattle.hilti_typing.specs.Fits.{made}
use Rattle.hilti_typing.specs.Types.{can_be_made}
use Rattle.hilti_operands.specs.Seen.{BodySeen}
use Rattle.hilti_operands.specs.Names.{meaning_of, read_named, struct_meant, container_made, read_new}
use Rattle.hilti_operands.proofs.ReadValues.{ok_is}
use Rattle.hilti_operands.proofs.ReadNames.{there}

made_is : {E : Type 0} (made object : Inner) → ◌≡◌ {A = Result Inner E} (Ok made) (Ok object) → IsTrue (can_be_made made) → IsTrue (can_be_made object)
made_is made object e can = let same : made ≡ object = cc in subst (λ (o : Inner). IsTrue (can_be_made o)) same can

single_made : (table : List Declared) (place : Place) (single : Single) (r : Result ValueType Place) (o : Inner) → single_value table place single r ≡ Ok o → IsTrue (can_be_made o)
single_made table place single (Err inside) o e = cc
single_made table place singles.List (Ok item) o e = made_is (inners.List item) o e refl
single_made table place singles.Vector (Ok item) o e = made_is (inners.Vector item) o e refl
single_made table place singles.Set (Ok item) o e = keyed (key_over table item) e
  where
    keyed : (b : Bool) → ◌≡◌ {A = Result Inner Place} (cond b (Ok (inners.Set item)) (Err place)) (Ok o) → IsTrue (can_be_made o)
    keyed true e = made_is (inners.Set item) o e refl
    keyed false e = cc

second_made : (double : Double) (first : ValueType) (second : Result ValueType Place) (o : Inner) → with_second double first second ≡ Ok o → IsTrue (can_be_made o)
second_made double first (Err inside) o e = cc
second_made doubles.Map first (Ok second) o e = made_is (inners.Map first second) o e refl
second_made doubles.Classifier first (Ok second) o e = made_is (inners.Classifier first second) o e refl

both_made : (table : List Declared) (place : Place) (double : Double) (first second : Result ValueType Place) (o : Inner) → both_value table place double first second ≡ Ok o → IsTrue (can_be_made o)
both_made table place double (Err inside) second o e = cc
both_made table place double (Ok first) second o e = keyed (key_over table first) e
  where
    keyed : (b : Bool) → cond b (with_second double first second) (Err place) ≡ Ok o → IsTrue (can_be_made o)
    keyed true e = second_made double first second o e
    keyed false e = cc

double_made : (table : List Declared) (place : Place) (double : Double) (first : Read ValueType) (second : Result ValueType Place) (o : Inner) → double_value table place double first second ≡ Ok o → IsTrue (can_be_made o)
double_made table place double first second o e = taken (takes double first.form) e
  where
    taken : (b : Bool) → cond b (both_value table place double first.stands second) (Err place) ≡ Ok o → IsTrue (can_be_made o)
    taken true e = both_made table place double first.stands second o e
    taken false e = cc

module _ (table : List Declared) (mean : Name → Meaning) where
  single_reads_as : (place : Place) (single : Single) (item : TypeText)
      → container_read_of table mean (containers.Single place single item) ≡ read true (single_value table place single (read_of table mean item).stands)
  single_reads_as place single item = ap (container_read_of table mean) (sym (containers.rolls-Single place single item)) ∙ search (rules, the_lemmas)

  double_reads_as : (place : Place) (double : Double) (first second : TypeText)
      → container_read_of table mean (containers.Double place double first second)
      ≡ read (is_map double) (double_value table place double (read_of table mean first) (read_of table mean second).stands)
  double_reads_as place double first second =
      ap (container_read_of table mean) (sym (containers.rolls-Double place double first second)) ∙ search (rules, the_lemmas)

  shape_made : (c : Container) (shape : Container-F Container InnerText Parametric TypeText) → out-Container c ≡ shape → (o : Inner) → container_value_of table mean c ≡ Ok o → IsTrue (can_be_made o)
  shape_made c (Container-F.Single place single item) is o e =
      let same : c ≡ containers.Single place single item = sym (roll-out-Container c) ∙ ap roll-Container is ∙ containers.rolls-Single place single item in
      single_made table place single (read_of table mean item).stands o
      (sym (ap (λ r. r.stands) (ap (container_read_of table mean) same ∙ single_reads_as place single item)) ∙ e)
  shape_made c (Container-F.Double place double first second) is o e =
      let same : c ≡ containers.Double place double first second = sym (roll-out-Container c) ∙ ap roll-Container is ∙ containers.rolls-Double place double first second in
      double_made table place double (read_of table mean first) (read_of table mean second).stands o
      (sym (ap (λ r. r.stands) (ap (container_read_of table mean) same ∙ double_reads_as place double first second)) ∙ e)

new_is : (o : Inner) (x : Operand) → operands.New o ≡ x → IsTrue (can_be_made o) → IsSomeAnd (made x) (λ p. IsTrue (can_be_made p))
new_is o x e can = subst (λ (y : Operand). IsSomeAnd (made y) (λ p. IsTrue (can_be_made p))) e can

container_is : (start : Place) (refusal : Option Refusal) (value : Result Inner Place) (x : Operand) → ((o : Inner) → value ≡ Ok o → IsTrue (can_be_made o)) → container_made start refusal value ≡ Ok x
    → IsSomeAnd (made x) (λ p. IsTrue (can_be_made p))
container_is start (Some refusal) value x can e = cc
container_is start None (Ok o) x can e = new_is o x (ok_is (operands.New o) x e) (can o refl)
container_is start None (Err place) x can e = cc

struct_is : (meaning : Meaning) (x : Operand) → struct_meant meaning ≡ Some x → IsSomeAnd (made x) (λ p. IsTrue (can_be_made p))
struct_is (means.Struct n) x e = let same : operands.New (inners.Struct n) ≡ x = cc in new_is (inners.Struct n) x same refl
struct_is _ x e = cc

named_struct : (body : BodySeen) (simple : Simple) (x : Operand) → read_named body struct_meant simple ≡ Ok x → IsSomeAnd (made x) (λ p. IsTrue (can_be_made p))
named_struct body simple x e = struct_is (meaning_of body simple) x (there _ _ x e)

pub new_asked : (body : BodySeen) (simple : Simple) (x : Operand) → read_new body simple ≡ Ok x → IsSomeAnd (made x) (λ p. IsTrue (can_be_made p))
new_asked body (simples.Container container) x e =
    container_is (container_start container) (container_refusal body.tables.types body.mean container) (container_value_of body.tables.types body.mean container) x
    (shape_made body.tables.types body.mean container (out-Container container) refl) e
new_asked body (simples.Manager place) x e = new_is inners.Manager x (ok_is (operands.New inners.Manager) x e) refl
new_asked body (simples.Name name) x e = named_struct body (simples.Name name) x e
new_asked body (simples.Literal literal) x e = named_struct body (simples.Literal literal) x e
new_asked body (simples.Label place name) x e = named_struct body (simples.Label place name) x e
new_asked body (simples.Any place) x e = named_struct body (simples.Any place) x e
new_asked body (simples.Plain place plain) x e = named_struct body (simples.Plain place plain) x e
new_asked body (simples.Parametric parametric) x e = named_struct body (simples.Parametric parametric) x e
new_asked body (simples.Timer place) x e = named_struct body (simples.Timer place) x e
