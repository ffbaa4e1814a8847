-- What lines on classifiers and overlays meet.
use Rattle.std.proofs.Common.{◌≡◌, ℕ, true, List, [], ◌∷◌, refl, ap, ◌∙◌, map, slice_get, Option, Some, None, IsSomeAnd, IsSome, is_some}
use Rattle.std.proofs.lemmas.Bool.{false≢true}
use Rattle.std.proofs.Math.Path.{subst}
use Rattle.std.specs.List.{AllZip}
use Rattle.std.specs.Option.{option_map, option_and_then}
use Rattle.hilti_types.specs.declared.declared.OverlayField.{OverlayField as FieldData}
use Rattle.hilti_types.specs.declared.value_type.Inner.TheVariants as inners
use Rattle.hilti_types.specs.declared.value_type.ValueType.{ValueType}
use Rattle.hilti_types.specs.declared.value_type.ValueType.TheVariants as types
use Rattle.hilti_table.specs.declared.row.Family.TheVariants as families
use Rattle.hilti_table.specs.declared.row.Gives.{Gives}
use Rattle.hilti_table.specs.declared.row.Kind.TheVariants.{Fixed, Own, Part, Rule, Query, Overlay, OverlayField}
use Rattle.hilti_table.specs.declared.row.Part.TheVariants as parts
use Rattle.hilti_table.specs.declared.row.Plain.{Plain}
use Rattle.hilti_table.specs.declared.row.Test.TheVariants as tests
use Rattle.hilti_parts.specs.declared.parts.Operand.{Operand}
use Rattle.hilti_parts.specs.Named.{given_kind}
use Rattle.hilti_parts.specs.Named.{grouped}
use Rattle.hilti_typing.specs.Context.{Setting, Known}
use Rattle.hilti_typing.specs.Types.{plain_type, rule_of, parts_of, asked_for}
use Rattle.hilti_typing.specs.Fits.{Has, HasKnown, Matches, Gets, Fit, AsksOwn, AsksRule, AsksQuery, knowing, reading, known_rule, known_part}
use Rattle.hilti_typing.specs.Fits.{overlay, overlay_field, field_number}
use Rattle.hilti_typing.specs.Facts.{Grouped, RuleAndValue, ClassifierAsked, FieldOfOverlay}
use Rattle.hilti_typing.specs.Laws.{ClassifierRows, OverlayRows}
use Rattle.hilti_typing.proofs.Objects.{referring, of_part, target_of}
use Rattle.hilti_typing.proofs.Records.{there}
use Rattle.hilti_typing.proofs.Shapes as shapes

classified : (s : Setting) (x : Operand) (rest : Known → Type 0) → AsksOwn s.context (tests.Object families.Classifier) x → rest (knowing (given_kind x)) →
    (r : ValueType) × (v : ValueType) × Has s.context (types.Ref (inners.Classifier r v)) x × rest (Known.Of (types.Ref (inners.Classifier r v)))
classified s x rest asks more =
    let it = referring s families.Classifier x rest asks more in
    let form = shapes.classifier it.0 it.1 in
    (form.0, form.1, subst (λ o. Has s.context (types.Ref o) x) form.2 it.2, subst (λ o. rest (Known.Of (types.Ref o))) form.2 it.3)

-- the parts of the rules of a classifier that is known
rule_known : (r v : ValueType) → known_rule (Known.Of (types.Ref (inners.Classifier r v))) ≡ Some (parts_of r)
rule_known r v = ap (λ to. option_and_then rule_of to) (shapes.refers (inners.Classifier r v)) ∙ shapes.classifier_rule r v

group_of : (so : ValueType → Operand → Type 0) (kinds : List ValueType) (group : Operand) (values : Option (List Operand)) → grouped group ≡ values →
    IsSomeAnd values (AllZip so kinds) → Grouped so kinds group
group_of so kinds group None e is = absurd is
group_of so kinds group (Some values) e is = record { values = values; groups = e; each = is }

rule_matches : (s : Setting) (r v : ValueType) (x : Operand) → AsksRule s.context (Known.Of (types.Ref (inners.Classifier r v))) x → Grouped (Matches s.context) (parts_of r) x
rule_matches s r v x asks = group_of (Matches s.context) (parts_of r) x (grouped x) refl
    (subst (λ known. IsSomeAnd known (λ rule. IsSomeAnd (grouped x) (AllZip (Matches s.context) rule))) (rule_known r v) asks)

query_asks : (s : Setting) (r v : ValueType) (x : Operand) → AsksQuery s.context (Known.Of (types.Ref (inners.Classifier r v))) x →
    Grouped (Has s.context) (map asked_for (parts_of r)) x
query_asks s r v x asks = group_of (Has s.context) (map asked_for (parts_of r)) x (grouped x) refl
    (subst (λ known. IsSomeAnd known (λ rule. IsSomeAnd (grouped x) (AllZip (Has s.context) (map asked_for rule)))) (rule_known r v) asks)

rule_row : (s : Setting) (g : Gives) (a : Plain) (items : List Operand) →
    Fit s g (Own (tests.Object families.Classifier) ∷ Rule ∷ Fixed a ∷ Part parts.Second ∷ []) Known.Nothing items →
    (r : ValueType) × (v : ValueType) × RuleAndValue a r v s items × Gets s g (Known.Of (types.Ref (inners.Classifier r v)))
unfolding Fit
rule_row s g a [] fit = absurd fit
rule_row s g a (x ∷ []) fit = absurd fit.1
rule_row s g a (x ∷ y ∷ []) fit = absurd fit.1.1
rule_row s g a (x ∷ y ∷ z ∷ []) fit = absurd fit.1.1.1
rule_row s g a (x ∷ y ∷ z ∷ w ∷ []) fit =
    let it = classified s x (λ k. AsksRule s.context k y × (HasKnown s.context (known_part parts.Second k) w × Gets s g k)) fit.0 (fit.1.0, fit.1.1.1) in (
      it.0,
      it.1,
      record {
        holder = x;
        group = y;
        number = z;
        last = w;
        are = refl;
        holder_is = it.2;
        matches = rule_matches s it.0 it.1 y it.3.0;
        number_is = fit.1.1.0;
        last_is = of_part s parts.Second (inners.Classifier it.0 it.1) it.1 w (shapes.classifier_value it.0 it.1) it.3.1.0;
      },
      it.3.1.1,
    )
rule_row s g a (x ∷ y ∷ z ∷ w ∷ v ∷ more) fit = absurd fit.1.1.1.1

query_row : (s : Setting) (g : Gives) (items : List Operand) → Fit s g (Own (tests.Object families.Classifier) ∷ Query ∷ []) Known.Nothing items →
    (r : ValueType) × (v : ValueType) × ClassifierAsked r v s items × Gets s g (Known.Of (types.Ref (inners.Classifier r v)))
unfolding Fit
query_row s g [] fit = absurd fit
query_row s g (x ∷ []) fit = absurd fit.1
query_row s g (x ∷ y ∷ []) fit =
    let it = classified s x (λ k. AsksQuery s.context k y × Gets s g k) fit.0 fit.1 in
    (it.0, it.1, record { holder = x; group = y; are = refl; holder_is = it.2; asked = query_asks s it.0 it.1 y it.3.0 }, it.3.1)
query_row s g (x ∷ y ∷ z ∷ more) fit = absurd fit.1.1

pub classifier_rows : ClassifierRows
classifier_rows = record {
  objects = shapes.classifier;
  add = λ a s g r f items fits. rule_row s g a items fits.fit;
  ask = λ s g r f items fits. query_row s g items fits.fit;
  target = λ s r v gets. target_of s parts.Second (inners.Classifier r v) v (shapes.classifier_value r v) gets;
}

-- the field of an overlay that is there
member : (fields : List FieldData) (n : ℕ) (found : Option FieldData) (t : ValueType) → slice_get fields n ≡ found → option_map (λ (f : FieldData). f.kind) found ≡ Some t →
    (f : FieldData) × (slice_get fields n ≡ Some f) × (t ≡ f.kind)
member fields n None t e is = absurd (false≢true (ap is_some is))
member fields n (Some f) t e is = (f, e, same is)
  where
    same : Some f.kind ≡ Some t → t ≡ f.kind
    same e = cc

overlay_of : (s : Setting) (a b : Plain) (x y z w : Operand) (found : Option (List FieldData)) (rest : Known → Type 0) → overlay s.context x ≡ found → is_some found ≡ true →
    IsSome (overlay_field (reading found) y) → Has s.context (plain_type a) z → Has s.context (plain_type b) w → rest (knowing (overlay_field (reading found) y)) →
    (f : FieldOfOverlay a b s (x ∷ y ∷ z ∷ w ∷ [])) × rest (Known.Of f.field.kind)
overlay_of s a b x y z w None rest e some is first second more = absurd (false≢true some)
overlay_of s a b x y z w (Some fields) rest e some is first second more =
    let it = there (λ (n : ℕ). option_map (λ (f : FieldData). f.kind) (slice_get fields n)) (field_number y) (overlay_field (Known.Reads fields) y) refl is in
    let one = member fields it.0 (slice_get fields it.0) it.1 refl it.3 in (
      record {
        form = x;
        name = y;
        first = z;
        second = w;
        fields = fields;
        at = it.0;
        field = one.0;
        are = refl;
        reads = e;
        written = it.2;
        there = one.1;
        first_is = first;
        second_is = second;
      },
      subst (λ t. rest (Known.Of t)) one.2 (subst (λ kind. rest (knowing kind)) it.4 more),
    )

overlay_row : (s : Setting) (g : Gives) (a b : Plain) (items : List Operand) → Fit s g (Overlay ∷ OverlayField ∷ Fixed a ∷ Fixed b ∷ []) Known.Nothing items →
    (f : FieldOfOverlay a b s items) × Gets s g (Known.Of f.field.kind)
unfolding Fit
overlay_row s g a b [] fit = absurd fit
overlay_row s g a b (x ∷ []) fit = absurd fit.1
overlay_row s g a b (x ∷ y ∷ []) fit = absurd fit.1.1
overlay_row s g a b (x ∷ y ∷ z ∷ []) fit = absurd fit.1.1.1
overlay_row s g a b (x ∷ y ∷ z ∷ w ∷ []) fit =
    overlay_of s a b x y z w (overlay s.context x) (λ k. Gets s g k) refl fit.0 fit.1.0 fit.1.1.0 fit.1.1.1.0 fit.1.1.1.1
overlay_row s g a b (x ∷ y ∷ z ∷ w ∷ v ∷ more) fit = absurd fit.1.1.1.1

pub overlay_rows : OverlayRows
overlay_rows a b s g r f items fits = overlay_row s g a b items fits.fit
