-- What scalar rows ask of typed values, and that they make typed values.
use Rattle.std.proofs.Common.{◌≡◌, ℕ, ◌<◌, ◌%◌, ◌^◌, Bool, true, false, not, ◌&&◌, ◌||◌, List, sym}
use Rattle.std.proofs.Common.{IfOk, Result, Ok, Err, cond}
use Rattle.std.proofs.Math.Path.{subst}
use Rattle.hilti_base.specs.declared.refusal.Raise.{Raise}
use Rattle.hilti_int.specs.declared.width.Width.{Width}
use Rattle.hilti_int.specs.Integers.{bits_of, exactly, outcome_of}
use Rattle.hilti_types.specs.declared.declared.Declared.{Declared}
use Rattle.hilti_types.specs.declared.value_type.ValueType.{ValueType}
use Rattle.hilti_types.specs.declared.value_type.ValueType.TheVariants as types
use Rattle.hilti_values.specs.declared.value.Value.{Value}
use Rattle.hilti_values.specs.declared.value.Value.TheVariants as values
use Rattle.hilti_rows.specs.declared.row.Binary.{Binary}
use Rattle.hilti_rows.specs.declared.row.Binary.TheVariants as binaries
use Rattle.hilti_rows.specs.declared.row.Unary.{Unary}
use Rattle.hilti_rows.specs.declared.row.Unary.TheVariants as unaries
use Rattle.hilti_scalar_ops.specs.Computing.{IsBool, IsInt, IsSized, TakesOne, TakesTwo, truth_of}
use Rattle.hilti_scalar_ops.specs.Computing.{whole_of, unary_of, binary_of, number, holds}
use Rattle.hilti_scalar_ops.specs.declared.computing.Made.{Made}
use Rattle.hilti_scalar_ops.specs.declared.computing.Made.TheVariants as made
use Rattle.hilti_shapes.specs.Needs.{Kinds, Has}
use Rattle.hilti_shapes.specs.TypedRows.{Turns, Combines}
use Rattle.hilti_shapes.proofs.Numbers.{outcome_fits, exactly_fits, wrapped_fits}
use Rattle.hilti_shapes.proofs.Values.{IsTruth, TruthIs, IsNumber, NumberIs, has_bool, has_int, is_truth, is_number}

truth_is_bool : (v : Value) → IsTruth v → IsBool v
truth_is_bool v (TruthIs b e) = subst IsBool (sym e) tt

number_is_int : (bits : ℕ) (v : Value) → IsNumber bits v → IsInt v
number_is_int bits v (NumberIs n e h) = subst IsInt (sym e) tt

number_is_sized : (w : Width) (v : Value) → IsNumber (bits_of w) v → IsSized w v
number_is_sized w v (NumberIs n e h) = subst (IsSized w) (sym e) h

number_below : (bits : ℕ) (v : Value) → IsNumber bits v → whole_of v < 2 ^ bits
number_below bits v (NumberIs n e h) = subst (λ v. whole_of v < 2 ^ bits) (sym e) h

module _ (table : List Declared) (k : Kinds) where
  pub bool_of : (v : Value) → Has table k v types.Bool → IsBool v
  bool_of v h = truth_is_bool v (is_truth table k v h)

  as_type : (v : Value) (t u : ValueType) → t ≡ u → Has table k v t → Has table k v u
  as_type v t u e h = subst (Has table k v) e h

  pub takes_one : (op : Unary) (from to : ValueType) (v : Value) → Turns op from to → Has table k v from
      → TakesOne op v
  takes_one unaries.Assign from to v turns h = tt
  takes_one unaries.Not from to v turns h = bool_of v (as_type v from types.Bool turns.0 h)
  takes_one (unaries.IntAs w) from to v turns h = number_is_int turns.0.0 v (is_number table k turns.0.0 v (as_type v
      from (types.Int turns.0.0) turns.0.1 h))
  takes_one (unaries.IntAsExact w) from to v turns h = number_is_int turns.0.0 v (is_number table k turns.0.0 v
      (as_type v from (types.Int turns.0.0) turns.0.1 h))

  sized : (w : Width) (v : Value) (of : ValueType) → of ≡ types.Int (bits_of w) → Has table k v of → IsSized w v
  sized w v of e h = number_is_sized w v (is_number table k (bits_of w) v (as_type v of (types.Int (bits_of w)) e h))

  pub takes_two : (op : Binary) (of to : ValueType) (v w : Value) → Combines op of to → Has table k v of
      → Has table k w of → TakesTwo op v w
  takes_two binaries.And of to v w c h g = (
    bool_of v (as_type v of types.Bool c.0 h),
    bool_of w (as_type w of
        types.Bool c.0 g),
  )
  takes_two binaries.Or of to v w c h g = (
    bool_of v (as_type v of types.Bool c.0 h),
    bool_of w (as_type w of
        types.Bool c.0 g),
  )
  takes_two (binaries.Int op width) of to v w c h g = (sized width v of c.0 h, sized width w of c.0 g)
  takes_two (binaries.Compare op width) of to v w c h g = (sized width v of c.0 h, sized width w of c.0 g)

  -- what is made has a type, where it isn't a raise
  abbrev pub MadeHas : ValueType → Made → Type 0
  MadeHas t (made.Gives v) = Has table k v t
  MadeHas t (made.Raises r) = Unit {0}

  number_has : (bits : ℕ) (r : Result ℕ Raise) → IfOk r (λ n. n < 2 ^ bits) → MadeHas (types.Int bits) (number r)
  number_has bits (Ok n) h = has_int table k n bits h
  number_has bits (Err e) h = tt

  pub unary_makes : (op : Unary) (from to : ValueType) (v : Value) → Turns op from to → Has table k v from
      → MadeHas to (unary_of op v)
  unary_makes unaries.Assign from to v turns h = as_type v from to (sym turns) h
  unary_makes unaries.Not from to v turns h = subst (Has table k (values.Bool (not (truth_of v)))) (sym turns.1)
      (has_bool table k (not (truth_of v)))
  unary_makes (unaries.IntAs w) from to v turns h =
      subst (Has table k (values.Int (whole_of v % 2 ^ bits_of w))) (sym turns.1) (has_int table k (whole_of v % 2 ^
      bits_of w) (bits_of w) (wrapped_fits (bits_of w) (whole_of v)))
  unary_makes (unaries.IntAsExact w) from to v turns h =
      subst (λ t. MadeHas t (number (exactly (bits_of w) (whole_of v)))) (sym turns.1) (number_has (bits_of w)
      (exactly (bits_of w) (whole_of v)) (exactly_fits (bits_of w) (whole_of v)))

  below : (w : Width) (v : Value) (of : ValueType) → of ≡ types.Int (bits_of w) → Has table k v of
      → whole_of v < 2 ^ bits_of w
  below w v of e h = number_below (bits_of w) v (is_number table k (bits_of w) v (as_type v of (types.Int (bits_of
      w)) e h))

  pub binary_makes : (op : Binary) (of to : ValueType) (v w : Value) → Combines op of to → Has table k v of
      → Has table k w of → MadeHas to (binary_of op v w)
  binary_makes binaries.And of to v w c h g = subst (Has table k (values.Bool (truth_of v && truth_of w))) (sym c.1)
      (has_bool table k (truth_of v && truth_of w))
  binary_makes binaries.Or of to v w c h g = subst (Has table k (values.Bool (truth_of v || truth_of w))) (sym c.1)
      (has_bool table k (truth_of v || truth_of w))
  binary_makes (binaries.Int op width) of to v w c h g =
      subst (λ t. MadeHas t (number (outcome_of op (bits_of width) (whole_of v) (whole_of w)))) (sym c.1)
      (number_has (bits_of width) (outcome_of op (bits_of width) (whole_of v) (whole_of w)) (outcome_fits op (bits_of
      width) (whole_of v) (whole_of w) (below width v of c.0 h) (below width w of c.0 g)))
  binary_makes (binaries.Compare op width) of to v w c h g =
      subst (Has table k (values.Bool (holds op (bits_of width) (whole_of v) (whole_of w)))) (sym c.1) (has_bool
      table k (holds op (bits_of width) (whole_of v) (whole_of w)))

  pub chosen_has : (b : Bool) (v w : Value) (t : ValueType) → Has table k v t → Has table k w t
      → Has table k (cond b v w) t
  chosen_has true v w t h g = h
  chosen_has false v w t h g = g
