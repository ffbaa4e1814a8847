-- What instructions compute of times and intervals.
use Rattle.std.specs.Prelude.{ℕ, ◌+◌, ◌-◌, ◌*◌, ◌^◌, nat_lt, nat_le, if◌then◌else◌, Result, Ok, Err}
use Rattle.hilti_base.specs.declared.refusal.Raise.{Raise}
use Rattle.hilti_base.specs.declared.refusal.Raise.TheVariants.{ValueError}
use Rattle.hilti_values.specs.declared.value.Value.{Value}
use Rattle.hilti_values.specs.declared.value.Value.TheVariants as values
use Rattle.hilti_time_ops.specs.declared.operations.TimeUnary.{TimeUnary}
use Rattle.hilti_time_ops.specs.declared.operations.TimeUnary.TheVariants as unaries
use Rattle.hilti_time_ops.specs.declared.operations.TimeBinary.{TimeBinary}
use Rattle.hilti_time_ops.specs.declared.operations.TimeBinary.TheVariants as binaries

-- a whole number, a time, and an interval
abbrev pub IsInt : Value → Type 0
IsInt (values.Int n) = Unit {0}
IsInt _ = ⊥

abbrev pub IsTime : Value → Type 0
IsTime (values.Time nanos) = Unit {0}
IsTime _ = ⊥

abbrev pub IsSpan : Value → Type 0
IsSpan (values.Span nanos) = Unit {0}
IsSpan _ = ⊥

-- the number, or the nanoseconds, that a value is; no other value is asked for them
abbrev pub whole_of : Value → ℕ
whole_of (values.Int n) = n
whole_of _ = 0

abbrev pub time_of : Value → ℕ
time_of (values.Time nanos) = nanos
time_of _ = 0

abbrev pub span_of : Value → ℕ
span_of (values.Span nanos) = nanos
span_of _ = 0

-- what is asked of the values
abbrev pub TakesOne : TimeUnary → Value → Type 0
TakesOne unaries.IntervalMake a = IsInt a
TakesOne unaries.TimeMake a = IsInt a
TakesOne unaries.IntervalNanos a = IsSpan a
TakesOne unaries.TimeNanos a = IsTime a

abbrev pub TakesTwo : TimeBinary → Value → Value → Type 0
TakesTwo binaries.TimeAdd a b = IsTime a × IsSpan b
TakesTwo binaries.TimeSub a b = IsTime a × IsSpan b
TakesTwo binaries.TimeDiff a b = IsTime a × IsTime b
TakesTwo binaries.IntervalAdd a b = IsSpan a × IsSpan b
TakesTwo binaries.IntervalSub a b = IsSpan a × IsSpan b
TakesTwo binaries.IntervalMul a b = IsSpan a × IsInt b

-- a number of nanoseconds, where it is below 2 ^ 64
abbrev pub in_range : ℕ → Result ℕ Raise
in_range n = if nat_lt n (2 ^ 64) then Ok n else Err ValueError

-- a number less another, where it isn't below 0
abbrev pub difference : ℕ → ℕ → Result ℕ Raise
difference a b = if nat_le b a then Ok (a - b) else Err ValueError

-- the time, and the interval, of so many nanoseconds, or the raise in its place
abbrev pub as_time : Result ℕ Raise → Result Value Raise
as_time (Ok nanos) = Ok (values.Time nanos)
as_time (Err raise) = Err raise

abbrev pub as_span : Result ℕ Raise → Result Value Raise
as_span (Ok nanos) = Ok (values.Span nanos)
as_span (Err raise) = Err raise

-- what is computed of a value
abbrev pub unary_of : TimeUnary → Value → Value
unary_of unaries.IntervalMake a = values.Span (whole_of a)
unary_of unaries.TimeMake a = values.Time (whole_of a)
unary_of unaries.IntervalNanos a = values.Int (span_of a)
unary_of unaries.TimeNanos a = values.Int (time_of a)

-- what is computed of two values
abbrev pub binary_of : TimeBinary → Value → Value → Result Value Raise
binary_of binaries.TimeAdd a b = as_time (in_range (time_of a + span_of b))
binary_of binaries.TimeSub a b = as_time (difference (time_of a) (span_of b))
binary_of binaries.TimeDiff a b = as_span (difference (time_of a) (time_of b))
binary_of binaries.IntervalAdd a b = as_span (in_range (span_of a + span_of b))
binary_of binaries.IntervalSub a b = as_span (difference (span_of a) (span_of b))
binary_of binaries.IntervalMul a b = as_span (in_range (span_of a * whole_of b))
