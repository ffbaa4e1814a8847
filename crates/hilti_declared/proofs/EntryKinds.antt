-- What an entry is asked to take are a time and bytes, or nothing, whatever names mean.
use Rattle.std.proofs.Common.{◌≡◌, refl, sym, ◌∙◌, ap, ap₂, ℕ, Bool, true, false, cond, List, [], ◌∷◌, codes, rules}
use Rattle.std.specs.Prelude.{bytes_eq, Ok}
use Rattle.std.proofs.lemmas.Bool.{false≢true}
use Rattle.hilti_base.specs.declared.names.Place.{Place}
use Rattle.hilti_module.specs.declared.types.Container.{Container}
use Rattle.hilti_module.specs.declared.types.Container.TheFolds.{the_lemmas}
use Rattle.hilti_module.specs.declared.types.Container.TheOpen.{InnerText-F, Parametric-F, TypeText-F}
use Rattle.hilti_module.specs.declared.types.InnerText.{InnerText, out-InnerText, roll-InnerText, roll-out-InnerText}
use Rattle.hilti_module.specs.declared.types.Name.{Name}
use Rattle.hilti_module.specs.declared.types.Parametric.{Parametric, out-Parametric, roll-Parametric, roll-out-Parametric}
use Rattle.hilti_module.specs.declared.types.PlainInner.TheVariants as words
use Rattle.hilti_module.specs.declared.types.PlainType.{PlainType}
use Rattle.hilti_module.specs.declared.types.PlainType.TheVariants as plain
use Rattle.hilti_module.specs.declared.types.TypeText.{TypeText, out-TypeText, roll-TypeText, roll-out-TypeText}
use Rattle.hilti_module.specs.declared.module.Parameter.{Parameter}
use Rattle.hilti_types.specs.declared.declared.Declared.{Declared}
use Rattle.hilti_types.specs.declared.value_type.ValueType.{ValueType}
use Rattle.hilti_types.specs.declared.value_type.ValueType.TheVariants as types
use Rattle.hilti_scope.specs.declared.meaning.Meaning.{Meaning}
use Rattle.hilti_resolve.specs.declared.inner_value.InnerValue.TheVariants.{BytesWord}
use Rattle.hilti_resolve.specs.Values.{value_of, parametric_value_of, inner_value_of, plain_value, reference_value}
use Rattle.hilti_link.specs.Entries.{is_time, is_time_text, is_bytes, is_bytes_text, is_bytes_ref, is_bytes_word, are_packet, is_empty, asked}
use Rattle.hilti_link.specs.Seeing.{View, or_bool}
use Rattle.hilti_link.specs.TypedWords.{kinds_of}
use Rattle.hilti_declared.proofs.Values.{both}

module _ (table : List Declared) (mean : Name → Meaning) where
  bytes_shape : (x : InnerText-F Container InnerText Parametric TypeText) → is_bytes_word x ≡ true → inner_value_of table mean (roll-InnerText x) ≡ Ok BytesWord
  bytes_shape (InnerText-F.Word place words.Bytes) e = search (rules, the_lemmas)
  bytes_shape _ e = absurd (false≢true e)

  bytes_inside : (to : InnerText) → is_bytes_word (out-InnerText to) ≡ true → inner_value_of table mean to ≡ Ok BytesWord
  bytes_inside to e = ap (inner_value_of table mean) (sym (roll-out-InnerText to)) ∙ bytes_shape (out-InnerText to) e

  reference_stands : (place : Place) (to : InnerText)
      → parametric_value_of table mean (roll-Parametric (Parametric-F.Ref place to)) ≡ reference_value place (inner_value_of table mean to)
  reference_stands place to = search (rules, the_lemmas)

  reference_shape : (x : Parametric-F Container InnerText Parametric TypeText) → is_bytes_ref x ≡ true → parametric_value_of table mean (roll-Parametric x) ≡ Ok types.Bytes
  reference_shape (Parametric-F.Ref place to) e = reference_stands place to ∙ ap (reference_value place) (bytes_inside to e)
  reference_shape _ e = absurd (false≢true e)

  bytes_referred : (parametric : Parametric) → is_bytes_ref (out-Parametric parametric) ≡ true → parametric_value_of table mean parametric ≡ Ok types.Bytes
  bytes_referred parametric e =
      ap (parametric_value_of table mean) (sym (roll-out-Parametric parametric)) ∙ reference_shape (out-Parametric parametric) e

  plain_stands : (place : Place) (word : PlainType) → value_of table mean (roll-TypeText (TypeText-F.Plain place word)) ≡ Ok (plain_value word)
  plain_stands place word = search (rules, the_lemmas)

  parametric_stands : (parametric : Parametric) → value_of table mean (roll-TypeText (TypeText-F.Parametric parametric)) ≡ parametric_value_of table mean parametric
  parametric_stands parametric = search (rules, the_lemmas)

  time_shape : (x : TypeText-F Container InnerText Parametric TypeText) → is_time_text x ≡ true → value_of table mean (roll-TypeText x) ≡ Ok types.Time
  time_shape (TypeText-F.Plain place plain.Time) e = plain_stands place plain.Time
  time_shape _ e = absurd (false≢true e)

  time_stands : (text : TypeText) → is_time text ≡ true → value_of table mean text ≡ Ok types.Time
  time_stands text e = ap (value_of table mean) (sym (roll-out-TypeText text)) ∙ time_shape (out-TypeText text) e

  text_shape : (x : TypeText-F Container InnerText Parametric TypeText) → is_bytes_text x ≡ true → value_of table mean (roll-TypeText x) ≡ Ok types.Bytes
  text_shape (TypeText-F.Plain place plain.Bytes) e = plain_stands place plain.Bytes
  text_shape (TypeText-F.Parametric parametric) e = parametric_stands parametric ∙ bytes_referred parametric e
  text_shape _ e = absurd (false≢true e)

  bytes_stand : (text : TypeText) → is_bytes text ≡ true → value_of table mean text ≡ Ok types.Bytes
  bytes_stand text e = ap (value_of table mean) (sym (roll-out-TypeText text)) ∙ text_shape (out-TypeText text) e

-- the types of the entry of this name
abbrev pub kinds_asked : List ℕ → List ValueType
kinds_asked word = cond (bytes_eq word (codes "packet")) (types.Time ∷ types.Bytes ∷ []) []

module _ (view : View) where
  packet_kinds : (parameters : List Parameter) → are_packet parameters ≡ true → kinds_of view parameters ≡ types.Time ∷ types.Bytes ∷ []
  packet_kinds (time ∷ bytes ∷ []) e =
      let passes = both (is_time time.kind) (is_bytes bytes.kind) e in
      ap₂ (λ (a b : ValueType). a ∷ b ∷ [])
      (ap or_bool (time_stands view.tables.types view.mean time.kind passes.0))
      (ap or_bool (bytes_stand view.tables.types view.mean bytes.kind passes.1))
  packet_kinds [] e = absurd (false≢true e)
  packet_kinds (one ∷ []) e = absurd (false≢true e)
  packet_kinds (one ∷ two ∷ three ∷ more) e = absurd (false≢true e)

  no_kinds : (parameters : List Parameter) → is_empty parameters ≡ true → kinds_of view parameters ≡ []
  no_kinds [] e = refl
  no_kinds (one ∷ more) e = absurd (false≢true e)

  pub entry_kinds : (word : List ℕ) (parameters : List Parameter) → asked word parameters ≡ true → kinds_of view parameters ≡ kinds_asked word
  entry_kinds word parameters e = by (bytes_eq word (codes "packet")) e
    where
      by : (b : Bool) → cond b (are_packet parameters) (is_empty parameters) ≡ true → kinds_of view parameters ≡ cond b (types.Time ∷ types.Bytes ∷ []) []
      by true e = packet_kinds parameters e
      by false e = no_kinds parameters e
