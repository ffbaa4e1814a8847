-- What instructions compute of one or two values.
use Rattle.std.specs.Prelude.{ℕ, ◌%◌, ◌^◌, ◌<◌, Bool, false, not, ◌&&◌, ◌||◌, nat_lt}
use Rattle.std.specs.Prelude.{nat_le, Result, Ok, Err}
use Rattle.std.specs.Prelude.{int_lt}
use Rattle.hilti_base.specs.declared.refusal.Raise.{Raise}
use Rattle.hilti_int.specs.declared.width.Width.{Width}
use Rattle.hilti_int.specs.declared.comparisons.IntCmp.{IntCmp}
use Rattle.hilti_int.specs.declared.comparisons.IntCmp.TheVariants.{Lt, Gt, Leq, Geq, Slt, Sgt}
use Rattle.hilti_int.specs.Integers.{bits_of, signed, outcome_of, exactly}
use Rattle.hilti_values.specs.declared.value.Value.{Value}
use Rattle.hilti_values.specs.declared.value.Value.TheVariants as values
use Rattle.hilti_rows.specs.declared.row.Binary.{Binary}
use Rattle.hilti_rows.specs.declared.row.Binary.TheVariants as binaries
use Rattle.hilti_rows.specs.declared.row.Unary.{Unary}
use Rattle.hilti_rows.specs.declared.row.Unary.TheVariants as unaries
use Rattle.hilti_scalar_ops.specs.declared.computing.Made.{Made}
use Rattle.hilti_scalar_ops.specs.declared.computing.Made.TheVariants as made

-- a truth value, and a whole number of a width
abbrev pub IsBool : Value → Type 0
IsBool (values.Bool truth) = Unit {0}
IsBool _ = ⊥

abbrev pub IsInt : Value → Type 0
IsInt (values.Int n) = Unit {0}
IsInt _ = ⊥

abbrev pub IsSized : Width → Value → Type 0
IsSized width (values.Int n) = n < 2 ^ bits_of width
IsSized width _ = ⊥

-- the truth value, and the whole number, that a value is; no other value is asked for one
abbrev pub truth_of : Value → Bool
truth_of (values.Bool truth) = truth
truth_of _ = false

abbrev pub whole_of : Value → ℕ
whole_of (values.Int n) = n
whole_of _ = 0

-- what is asked of the values
abbrev pub TakesOne : Unary → Value → Type 0
TakesOne unaries.Assign a = Unit {0}
TakesOne unaries.Not a = IsBool a
TakesOne (unaries.IntAs width) a = IsInt a
TakesOne (unaries.IntAsExact width) a = IsInt a

abbrev pub TakesTwo : Binary → Value → Value → Type 0
TakesTwo binaries.And a b = IsBool a × IsBool b
TakesTwo binaries.Or a b = IsBool a × IsBool b
TakesTwo (binaries.Int op width) a b = IsSized width a × IsSized width b
TakesTwo (binaries.Compare op width) a b = IsSized width a × IsSized width b

-- whether a comparison holds
abbrev pub holds : IntCmp → ℕ → ℕ → ℕ → Bool
holds Lt bits a b = nat_lt a b
holds Gt bits a b = nat_lt b a
holds Leq bits a b = nat_le a b
holds Geq bits a b = nat_le b a
holds Slt bits a b = int_lt (signed bits a) (signed bits b)
holds Sgt bits a b = int_lt (signed bits b) (signed bits a)

-- a number, or the raise in its place
abbrev pub number : Result ℕ Raise → Made
number (Ok n) = made.Gives (values.Int n)
number (Err raise) = made.Raises raise

-- what is computed of a value
abbrev pub unary_of : Unary → Value → Made
unary_of unaries.Assign a = made.Gives a
unary_of unaries.Not a = made.Gives (values.Bool (not (truth_of a)))
unary_of (unaries.IntAs width) a = made.Gives (values.Int (whole_of a % 2 ^ bits_of width))
unary_of (unaries.IntAsExact width) a = number (exactly (bits_of width) (whole_of a))

-- what is computed of two values
abbrev pub binary_of : Binary → Value → Value → Made
binary_of binaries.And a b = made.Gives (values.Bool (truth_of a && truth_of b))
binary_of binaries.Or a b = made.Gives (values.Bool (truth_of a || truth_of b))
binary_of (binaries.Int op width) a b =
    number (outcome_of op (bits_of width) (whole_of a) (whole_of b))
binary_of (binaries.Compare op width) a b =
    made.Gives (values.Bool (holds op (bits_of width) (whole_of a) (whole_of b)))
