-- Values of types: what they are, and which values have a type.
use Rattle.std.proofs.Common.{◌≡◌, ℕ, ◌<◌, ◌^◌, Bool, true, false, IsTrue, List, refl, sym, ap, ◌∙◌}
use Rattle.std.proofs.Common.{Some, IsSomeAnd, arith, rules}
use Rattle.std.proofs.Math.Path.{subst}
use Rattle.std.specs.Prelude.{nat_lt}
use Rattle.std.proofs.lemmas.Bool.{false≢true}
use Rattle.std.proofs.lemmas.Bool.Decides.{nat_tests}
use Rattle.hilti_types.specs.declared.declared.Declared.{Declared}
use Rattle.hilti_types.specs.declared.value_type.Inner.{Inner}
use Rattle.hilti_types.specs.declared.value_type.Inner.TheOpen.{ValueType-F}
use Rattle.hilti_types.specs.declared.value_type.ValueType.{ValueType, out-ValueType}
use Rattle.hilti_types.specs.declared.value_type.ValueType.{roll-ValueType, out-roll-ValueType}
use Rattle.hilti_types.specs.declared.value_type.ValueType.TheVariants as types
use Rattle.hilti_values.specs.declared.value.Value.{Value, out-Value, roll-Value}
use Rattle.hilti_values.specs.declared.value.Value.TheVariants as values
use Rattle.hilti_values.specs.declared.value.Value.TheOpen.{Value-F}
use Rattle.hilti_values.specs.declared.value.Value.TheFolds.{map-Value, the_lemmas}
use Rattle.hilti_shapes.specs.Needs.{ObjectType, Needs, Kinds, Meets, Has, needs, needs_step, needs_shape, nothing_if}

-- what values of a type are
pub data IsTruth (v : Value) : Type 0 where
  TruthIs : (b : Bool) → v ≡ values.Bool b → IsTruth v

pub data IsNumber (bits : ℕ) (v : Value) : Type 0 where
  NumberIs : (n : ℕ) → v ≡ values.Int n → n < 2 ^ bits → IsNumber bits v

pub data IsString (v : Value) : Type 0 where
  StringIs : (bytes : List ℕ) → v ≡ values.Text bytes → IsString v

pub data Refers (k : Kinds) (to : Inner) (v : Value) : Type 0 where
  RefersNull : v ≡ values.Null → Refers k to v
  RefersTo : (s : ℕ) → v ≡ values.Ref s → k s ≡ Some (ObjectType.Referred to) → Refers k to v

module _ (table : List Declared) where
  needs_out : (v : Value) (t : ValueType) → needs table v t ≡ needs_shape table (map-Value Value (ValueType
      → Needs) (needs table) (out-Value v)) (out-ValueType t)
  needs_out v t =
      let e : needs table v ≡ needs_step table (map-Value Value (ValueType
      → Needs) (needs table) (out-Value v)) = search (rules, the_lemmas) in
      ap (λ (f : ValueType → Needs). f t) e

  needs_roll : (x : Value-F Value) (t : ValueType)
      → needs table (roll-Value x) t ≡ needs_shape table (map-Value Value (ValueType
      → Needs) (needs table) x) (out-ValueType t)
  needs_roll x t =
      let e : needs table (roll-Value x) ≡ needs_step table (map-Value Value (ValueType
      → Needs) (needs table) x) = search (rules, the_lemmas) in
      ap (λ (f : ValueType → Needs). f t) e

  -- what a value of a shape needs of a type of a shape
  pub shape_needs : (x : Value-F Value) (v : Value) (shape : ValueType-F Inner ValueType) (t : ValueType)
      → roll-Value x ≡ v → roll-ValueType shape ≡ t
      → needs table v t ≡ needs_shape table (map-Value Value (ValueType → Needs) (needs table) x) shape
  shape_needs x v shape t e f =
      ap (λ v. needs table v t) (sym e) ∙ needs_roll x t
      ∙ ap (needs_shape table (map-Value Value (ValueType → Needs) (needs table) x)) (ap out-ValueType (sym f)
      ∙ out-roll-ValueType shape)

  back : (v : Value) → roll-Value (out-Value v) ≡ v
  back v = search (rules, the_lemmas)

  -- what is so of each shape that has a type is so of each value that has it
  pub by_shape : (k : Kinds) (P : Value → Type 0) (t : ValueType) (shape : ValueType-F Inner ValueType)
      → out-ValueType t ≡ shape
      → ((x : Value-F Value) → IsSomeAnd (needs_shape table (map-Value Value (ValueType
      → Needs) (needs table) x) shape) (Meets k) → P (roll-Value x))
      → (v : Value) → Has table k v t → P v
  by_shape k P t shape e f v h =
      let n : needs table v t ≡ needs_shape table (map-Value Value (ValueType
      → Needs) (needs table) (out-Value v)) shape
      = needs_out v t ∙ ap (needs_shape table (map-Value Value (ValueType → Needs) (needs table) (out-Value v))) e in
      subst P (back v) (f (out-Value v) (subst (λ o. IsSomeAnd o (Meets k)) n h))

  -- a value of a shape that has a type
  of_shape : (k : Kinds) (x : Value-F Value) (t : ValueType) (shape : ValueType-F Inner ValueType)
      → out-ValueType t ≡ shape
      → IsSomeAnd (needs_shape table (map-Value Value (ValueType → Needs) (needs table) x) shape) (Meets k)
      → Has table k (roll-Value x) t
  of_shape k x t shape e h =
      subst (λ o. IsSomeAnd o (Meets k)) (sym (needs_roll x t ∙ ap (needs_shape table (map-Value Value (ValueType
      → Needs) (needs table) x)) e)) h

  -- the shapes of types
  out_bool : out-ValueType types.Bool ≡ ValueType-F.Bool
  out_bool = ap out-ValueType (sym types.rolls-Bool) ∙ out-roll-ValueType ValueType-F.Bool

  out_int : (bits : ℕ) → out-ValueType (types.Int bits) ≡ ValueType-F.Int bits
  out_int bits = ap out-ValueType (sym (types.rolls-Int bits)) ∙ out-roll-ValueType (ValueType-F.Int bits)

  out_text : out-ValueType types.Text ≡ ValueType-F.Text
  out_text = ap out-ValueType (sym types.rolls-Text) ∙ out-roll-ValueType ValueType-F.Text

  out_ref : (to : Inner) → out-ValueType (types.Ref to) ≡ ValueType-F.Ref to
  out_ref to = ap out-ValueType (sym (types.rolls-Ref to)) ∙ out-roll-ValueType (ValueType-F.Ref to)

  out_callable : out-ValueType types.Callable ≡ ValueType-F.Callable
  out_callable = ap out-ValueType (sym types.rolls-Callable) ∙ out-roll-ValueType ValueType-F.Callable

  pub has_null : (k : Kinds) (to : Inner) → Has table k values.Null (types.Ref to)
  has_null k to = subst (λ v. Has table k v (types.Ref to)) values.rolls-Null (of_shape k Value-F.Null (types.Ref to)
      (ValueType-F.Ref to) (out_ref to) tt)

  -- values that have a type
  pub has_bool : (k : Kinds) (b : Bool) → Has table k (values.Bool b) types.Bool
  has_bool k b = subst (λ v. Has table k v types.Bool) (values.rolls-Bool b) (of_shape k (Value-F.Bool b) types.Bool
      ValueType-F.Bool out_bool tt)

  pub has_text : (k : Kinds) (bytes : List ℕ) → Has table k (values.Text bytes) types.Text
  has_text k bytes = subst (λ v. Has table k v types.Text) (values.rolls-Text bytes) (of_shape k (Value-F.Text bytes)
      types.Text ValueType-F.Text out_text tt)

  fits_if : (k : Kinds) (b : Bool) → IsTrue b → IsSomeAnd (nothing_if b) (Meets k)
  fits_if k true h = tt
  fits_if k false h = absurd (false≢true h)

  pub below_true : (n m : ℕ) → n < m → IsTrue (nat_lt n m)
  below_true n m h = grind (arith, nat_tests, h)

  true_below : (n m : ℕ) → IsTrue (nat_lt n m) → n < m
  true_below n m h = grind (arith, nat_tests, h)

  pub has_int : (k : Kinds) (n bits : ℕ) → n < 2 ^ bits → Has table k (values.Int n) (types.Int bits)
  has_int k n bits h = subst (λ v. Has table k v (types.Int bits)) (values.rolls-Int n)
      (of_shape k (Value-F.Int n) (types.Int bits) (ValueType-F.Int bits) (out_int bits) (fits_if k (nat_lt n (2 ^
      bits)) (below_true n (2 ^ bits) h)))

  pub has_ref : (k : Kinds) (s : ℕ) (to : Inner) → k s ≡ Some (ObjectType.Referred to)
      → Has table k (values.Ref s) (types.Ref to)
  has_ref k s to h = subst (λ v. Has table k v (types.Ref to)) (values.rolls-Ref s)
      (of_shape k (Value-F.Ref s) (types.Ref to) (ValueType-F.Ref to) (out_ref to) (h, tt))

  pub has_callable : (k : Kinds) (s : ℕ) → k s ≡ Some ObjectType.Callable → Has table k (values.Ref s) types.Callable
  has_callable k s h = subst (λ v. Has table k v types.Callable) (values.rolls-Ref s)
      (of_shape k (Value-F.Ref s) types.Callable ValueType-F.Callable out_callable (h, tt))

  truth_shape : (k : Kinds) (x : Value-F Value) → IsSomeAnd (needs_shape table (map-Value Value (ValueType
      → Needs) (needs table) x) ValueType-F.Bool) (Meets k) → IsTruth (roll-Value x)
  truth_shape k (Value-F.Bool b) h = TruthIs b (values.rolls-Bool b)
  truth_shape k (Value-F.Int n) h = absurd h
  truth_shape k (Value-F.Text bytes) h = absurd h
  truth_shape k (Value-F.Bytes bytes) h = absurd h
  truth_shape k (Value-F.Addr a) h = absurd h
  truth_shape k (Value-F.Net l a) h = absurd h
  truth_shape k (Value-F.Port n u) h = absurd h
  truth_shape k (Value-F.Time n) h = absurd h
  truth_shape k (Value-F.Span n) h = absurd h
  truth_shape k (Value-F.Pick n) h = absurd h
  truth_shape k (Value-F.Tuple parts) h = absurd h
  truth_shape k Value-F.Null h = absurd h
  truth_shape k (Value-F.Ref s) h = absurd h
  truth_shape k (Value-F.Iter c) h = absurd h

  string_shape : (k : Kinds) (x : Value-F Value) → IsSomeAnd (needs_shape table (map-Value Value (ValueType
      → Needs) (needs table) x) ValueType-F.Text) (Meets k) → IsString (roll-Value x)
  string_shape k (Value-F.Text bytes) h = StringIs bytes (values.rolls-Text bytes)
  string_shape k (Value-F.Bool b) h = absurd h
  string_shape k (Value-F.Int n) h = absurd h
  string_shape k (Value-F.Bytes bytes) h = absurd h
  string_shape k (Value-F.Addr a) h = absurd h
  string_shape k (Value-F.Net l a) h = absurd h
  string_shape k (Value-F.Port n u) h = absurd h
  string_shape k (Value-F.Time n) h = absurd h
  string_shape k (Value-F.Span n) h = absurd h
  string_shape k (Value-F.Pick n) h = absurd h
  string_shape k (Value-F.Tuple parts) h = absurd h
  string_shape k Value-F.Null h = absurd h
  string_shape k (Value-F.Ref s) h = absurd h
  string_shape k (Value-F.Iter c) h = absurd h

  if_fits : (k : Kinds) (b : Bool) → IsSomeAnd (nothing_if b) (Meets k) → IsTrue b
  if_fits k true h = refl
  if_fits k false h = absurd h

  number_shape : (k : Kinds) (bits : ℕ) (x : Value-F Value)
      → IsSomeAnd (needs_shape table (map-Value Value (ValueType
      → Needs) (needs table) x) (ValueType-F.Int bits)) (Meets k) → IsNumber bits (roll-Value x)
  number_shape k bits (Value-F.Int n) h = NumberIs n (values.rolls-Int n) (true_below n (2 ^ bits) (if_fits k (nat_lt
      n (2 ^ bits)) h))
  number_shape k bits (Value-F.Bool b) h = absurd h
  number_shape k bits (Value-F.Text bytes) h = absurd h
  number_shape k bits (Value-F.Bytes bytes) h = absurd h
  number_shape k bits (Value-F.Addr a) h = absurd h
  number_shape k bits (Value-F.Net l a) h = absurd h
  number_shape k bits (Value-F.Port n u) h = absurd h
  number_shape k bits (Value-F.Time n) h = absurd h
  number_shape k bits (Value-F.Span n) h = absurd h
  number_shape k bits (Value-F.Pick n) h = absurd h
  number_shape k bits (Value-F.Tuple parts) h = absurd h
  number_shape k bits Value-F.Null h = absurd h
  number_shape k bits (Value-F.Ref s) h = absurd h
  number_shape k bits (Value-F.Iter c) h = absurd h

  refers_shape : (k : Kinds) (to : Inner) (x : Value-F Value)
      → IsSomeAnd (needs_shape table (map-Value Value (ValueType
      → Needs) (needs table) x) (ValueType-F.Ref to)) (Meets k) → Refers k to (roll-Value x)
  refers_shape k to Value-F.Null h = RefersNull values.rolls-Null
  refers_shape k to (Value-F.Ref s) h = RefersTo s (values.rolls-Ref s) h.0
  refers_shape k to (Value-F.Bool b) h = absurd h
  refers_shape k to (Value-F.Int n) h = absurd h
  refers_shape k to (Value-F.Text bytes) h = absurd h
  refers_shape k to (Value-F.Bytes bytes) h = absurd h
  refers_shape k to (Value-F.Addr a) h = absurd h
  refers_shape k to (Value-F.Net l a) h = absurd h
  refers_shape k to (Value-F.Port n u) h = absurd h
  refers_shape k to (Value-F.Time n) h = absurd h
  refers_shape k to (Value-F.Span n) h = absurd h
  refers_shape k to (Value-F.Pick n) h = absurd h
  refers_shape k to (Value-F.Tuple parts) h = absurd h
  refers_shape k to (Value-F.Iter c) h = absurd h

  pub is_truth : (k : Kinds) (v : Value) → Has table k v types.Bool → IsTruth v
  is_truth k v h = by_shape k IsTruth types.Bool ValueType-F.Bool out_bool (truth_shape k) v h

  pub is_string : (k : Kinds) (v : Value) → Has table k v types.Text → IsString v
  is_string k v h = by_shape k IsString types.Text ValueType-F.Text out_text (string_shape k) v h

  pub is_number : (k : Kinds) (bits : ℕ) (v : Value) → Has table k v (types.Int bits) → IsNumber bits v
  is_number k bits v h = by_shape k (IsNumber bits) (types.Int bits) (ValueType-F.Int bits) (out_int bits)
      (number_shape k bits) v h

  pub refers : (k : Kinds) (to : Inner) (v : Value) → Has table k v (types.Ref to) → Refers k to v
  refers k to v h = by_shape k (Refers k to) (types.Ref to) (ValueType-F.Ref to) (out_ref to) (refers_shape k to) v h
