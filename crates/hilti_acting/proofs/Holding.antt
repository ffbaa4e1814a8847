-- What computed values hold, and who holds the values of operands.
use Rattle.std.proofs.Common.{◌≡◌, ℕ, ◌≤◌, Bool, List, refl, sym, ap, ◌∙◌, Option, Some, None}
use Rattle.std.proofs.Common.{arith, sum_by}
use Rattle.std.specs.Prelude.{slice_get, Result, Ok, Err, not, ◌&&◌, ◌||◌, ◌%◌, ◌^◌}
use Rattle.std.proofs.lemmas.Option.{slice_get_within, get_or_from_slice_get}
use Rattle.std.proofs.lemmas.List.Sums.{sum-map, get_or-le-sum_by}
use Rattle.hilti_base.specs.declared.refusal.Raise.{Raise}
use Rattle.hilti_values.specs.declared.value.Value.{Value}
use Rattle.hilti_values.specs.declared.value.Value.TheVariants as values
use Rattle.hilti_values.specs.declared.value.Value.TheOpen.{Value-F}
use Rattle.hilti_values.specs.declared.value.Value.TheFolds.{fold-roll-Value}
use Rattle.hilti_heap.specs.Held.{held, held_step}
use Rattle.hilti_rows.specs.declared.row.Binary.{Binary}
use Rattle.hilti_rows.specs.declared.row.Binary.TheVariants as binaries
use Rattle.hilti_rows.specs.declared.row.Source.{Source}
use Rattle.hilti_rows.specs.declared.row.Source.TheVariants as sources
use Rattle.hilti_rows.specs.declared.row.Unary.{Unary}
use Rattle.hilti_rows.specs.declared.row.Unary.TheVariants as unaries
use Rattle.hilti_scalar_ops.specs.Computing.{number, unary_of, binary_of, truth_of, whole_of, holds}
use Rattle.hilti_int.specs.Integers.{bits_of, outcome_of, exactly}
use Rattle.hilti_stack.specs.Frames.{Frames}
use Rattle.hilti_effects.specs.Operands.{value_or_null, value_at}
use Rattle.hilti_acting.specs.Acts.{IfGives}
use Rattle.hilti_acting.specs.Owned.{owned, IsFree}

module _ (q : ℕ) where
  pub held_null : held q values.Null ≡ 0
  held_null =
      ap (held q) (sym values.rolls-Null) ∙ fold-roll-Value ℕ (held_step q) Value-F.Null

  pub held_bool : (b : Bool) → held q (values.Bool b) ≡ 0
  held_bool b =
      ap (held q) (sym (values.rolls-Bool b)) ∙ fold-roll-Value ℕ (held_step q) (Value-F.Bool b)

  pub held_int : (n : ℕ) → held q (values.Int n) ≡ 0
  held_int n =
      ap (held q) (sym (values.rolls-Int n)) ∙ fold-roll-Value ℕ (held_step q) (Value-F.Int n)

  in_list : (vs : List Value) (n : ℕ) (found : Option Value) → slice_get vs n ≡ found
      → held q (value_or_null found) ≤ sum_by (held q) vs
  in_list vs n None e = let z = held_null in omega arith
  in_list vs n (Some x) e =
      let within = slice_get_within vs n x e in
      omega (
        arith,
        get_or-le-sum_by (held q) vs n x within,
        ap (held q) (get_or_from_slice_get vs n x x e),
      )

  -- the value of an operand is held by the frames and the globals, or holds nothing
  pub operand_owned : (f : Frames) (gs : List Value) (s : Source) → IsFree s
      → held q (value_at f.slots gs s) ≤ owned f gs q
  operand_owned f gs (sources.Slot n) free =
      let i = in_list f.slots n (slice_get f.slots n) refl in omega arith
  operand_owned f gs (sources.Global n) free =
      let i = in_list gs n (slice_get gs n) refl in let m = sum-map (held q) gs in omega arith
  operand_owned f gs (sources.Constant value) free = let z = free q in omega arith

-- what is computed holds no more than its operands

module _ (m : ℕ → ℕ) where
  abbrev IsOwned : Value → Type 0
  IsOwned value = (q : ℕ) → held q value ≤ m q

  number_owned : (r : Result ℕ Raise) → IfGives (number r) IsOwned
  number_owned (Ok n) = λ q. let z = held_int q n in omega arith
  number_owned (Err raise) = tt

  pub unary_owned : (op : Unary) (a : Value) → IsOwned a → IfGives (unary_of op a) IsOwned
  unary_owned unaries.Assign a is = is
  unary_owned unaries.Not a is = λ q. omega (arith, held_bool q (not (truth_of a)))
  unary_owned (unaries.IntAs width) a is =
      λ q. omega (arith, held_int q (whole_of a % 2 ^ bits_of width))
  unary_owned (unaries.IntAsExact width) a is = number_owned (exactly (bits_of width) (whole_of a))

  pub binary_owned : (op : Binary) (a b : Value) → IfGives (binary_of op a b) IsOwned
  binary_owned binaries.And a b = λ q. omega (arith, held_bool q (truth_of a && truth_of b))
  binary_owned binaries.Or a b = λ q. omega (arith, held_bool q (truth_of a || truth_of b))
  binary_owned (binaries.Int op width) a b =
      number_owned (outcome_of op (bits_of width) (whole_of a) (whole_of b))
  binary_owned (binaries.Compare op width) a b =
      λ q. omega (arith, held_bool q (holds op (bits_of width) (whole_of a) (whole_of b)))
