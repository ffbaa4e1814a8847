-- What is read of each form of a written type whose rule asks for the form of a part.
use Rattle.std.proofs.Common.{◌≡◌, refl, sym, ◌∙◌, ap, Bool, true, false, cond, List, map, Result, Ok, Err, rules, ◌↔◌, IsTrue}
use Rattle.std.proofs.lemmas.Bool.{false_from_ne_true}
use Rattle.hilti_base.specs.declared.names.Place.{Place}
use Rattle.hilti_module.specs.declared.types.Name.{Name}
use Rattle.hilti_module.specs.declared.types.Double.{Double}
use Rattle.hilti_module.specs.declared.types.TypeText.{TypeText}
use Rattle.hilti_module.specs.declared.types.TypeText.TheVariants as texts
use Rattle.hilti_module.specs.declared.types.InnerText.{InnerText}
use Rattle.hilti_module.specs.declared.types.InnerText.TheVariants as inners
use Rattle.hilti_module.specs.declared.types.Parametric.{Parametric}
use Rattle.hilti_module.specs.declared.types.Parametric.TheVariants as parametrics
use Rattle.hilti_module.specs.declared.types.Container.{Container}
use Rattle.hilti_module.specs.declared.types.Container.TheVariants as containers
use Rattle.hilti_module.specs.declared.types.Container.TheFolds.{the_lemmas}
use Rattle.hilti_types.specs.declared.declared.Declared.{Declared}
use Rattle.hilti_types.specs.declared.value_type.Inner.{Inner}
use Rattle.hilti_types.specs.declared.value_type.ValueType.{ValueType}
use Rattle.hilti_types.specs.Keys.{key_over}
use Rattle.hilti_scope.specs.declared.meaning.Meaning.{Meaning}
use Rattle.hilti_resolve.specs.declared.inner_value.InnerValue.{InnerValue}
use Rattle.hilti_resolve.specs.Values.{Read, read, read_of, parametric_read_of, inner_read_of, container_read_of, as_inner, is_map, takes, with_second, object_of, both_value, double_value, tuple_value, iterator_over, iterator_value}

module _ (table : List Declared) (mean : Name → Meaning) where
  pub parametric_reads_as : (parametric : Parametric) → read_of table mean (texts.Parametric parametric) ≡ parametric_read_of table mean parametric
  parametric_reads_as parametric = ap (read_of table mean) (sym (texts.rolls-Parametric parametric)) ∙ search (rules, the_lemmas)

  pub container_reads_as : (container : Container)
      → inner_read_of table mean (inners.Container container) ≡ read (container_read_of table mean container).form (as_inner (container_read_of table mean container).stands)
  container_reads_as container = ap (inner_read_of table mean) (sym (inners.rolls-Container container)) ∙ search (rules, the_lemmas)

  pub double_reads_as : (place : Place) (double : Double) (first second : TypeText)
      → container_read_of table mean (containers.Double place double first second)
      ≡ read (is_map double) (double_value table place double (read_of table mean first) (read_of table mean second).stands)
  double_reads_as place double first second =
      ap (container_read_of table mean) (sym (containers.rolls-Double place double first second)) ∙ search (rules, the_lemmas)

  pub tuple_reads_as : (place : Place) (parts : List TypeText)
      → parametric_read_of table mean (parametrics.Tuple place parts) ≡ read true (tuple_value place (map (read_of table mean) parts))
  tuple_reads_as place parts = ap (parametric_read_of table mean) (sym (parametrics.rolls-Tuple place parts)) ∙ search (rules, the_lemmas)

  pub iterator_reads_as : (place : Place) (over : InnerText)
      → parametric_read_of table mean (parametrics.Iterator place over) ≡ read false (iterator_value place (inner_read_of table mean over))
  iterator_reads_as place over = ap (parametric_read_of table mean) (sym (parametrics.rolls-Iterator place over)) ∙ search (rules, the_lemmas)

-- an iterator over what it doesn't go over, over what has a fault, and over an object
module _ (place : Place) (over : Read InnerValue) where
  pub not_walked : over.form ≡ false → iterator_value place over ≡ Err place
  not_walked form = ap (λ form. cond form (iterator_over place over.stands) (Err place)) form

  pub walked : (told : Result InnerValue Place) → over.form ≡ true → over.stands ≡ told → iterator_value place over ≡ iterator_over place told
  walked told form stands =
      ap (λ form. cond form (iterator_over place over.stands) (Err place)) form ∙ ap (iterator_over place) stands

-- a container of two types, up to its first fault
module _ (table : List Declared) (place : Place) (double : Double) (first : Read ValueType) (second : Result ValueType Place) where
  pub not_taken : takes double first.form ≡ false → double_value table place double first second ≡ Err place
  not_taken fails = ap (λ passes. cond passes (both_value table place double first.stands second) (Err place)) fails

  pub taken : (told : Result ValueType Place) → takes double first.form ≡ true → first.stands ≡ told
      → double_value table place double first second ≡ both_value table place double told second
  taken told passes stands =
      ap (λ passes. cond passes (both_value table place double first.stands second) (Err place)) passes
      ∙ ap (λ stands. both_value table place double stands second) stands

  pub first_fails : (fault : Place) → takes double first.form ≡ true → first.stands ≡ Err fault
      → double_value table place double first second ≡ Err fault
  first_fails fault is_taken stands = taken (Err fault) is_taken stands

  pub no_key : (kind : ValueType) → takes double first.form ≡ true → first.stands ≡ Ok kind → key_over table kind ≡ false
      → double_value table place double first second ≡ Err place
  no_key kind is_taken stands key =
      taken (Ok kind) is_taken stands ∙ ap (λ key. cond key (with_second double kind second) (Err place)) key

  pub with_key : (kind : ValueType) (told : Result ValueType Place) → takes double first.form ≡ true → first.stands ≡ Ok kind
      → key_over table kind ≡ true → second ≡ told → double_value table place double first second ≡ with_second double kind told
  with_key kind told is_taken stands key is =
      taken (Ok kind) is_taken stands
      ∙ ap (λ key. cond key (with_second double kind second) (Err place)) key
      ∙ ap (with_second double kind) is

-- a test that passes exactly where another one does
pub fails_too : (test other : Bool) → (IsTrue test ↔ IsTrue other) → test ≡ false → other ≡ false
fails_too test other told fails = false_from_ne_true other (λ passes. let also : test ≡ true = told.1 passes in cc)
