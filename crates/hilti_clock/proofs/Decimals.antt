-- A numeral of seconds is read in one way.
use Rattle.std.proofs.Common.{◌≡◌, ℕ, ◌+◌, ◌*◌, ◌^◌, ◌<◌, List, refl, sym, ◌∙◌, subst, inl, inr, arith}
use Rattle.std.specs.Prelude.{Option, Some, None, IsNone, SomeIff}
use Rattle.hilti_base.specs.Numerals.{IsNumber, IsSplit, Lacks, greatest}
use Rattle.hilti_base.proofs.Splits.{behind_number, digits_lack, nowhere, one_number, one_split}
use Rattle.hilti_clock.specs.Numerals.{IsDecimal, IsFraction, IsSeconds}

pub no_point : (text : List ℕ) → Lacks 46 text → (seconds nanos : ℕ) → ¬ (IsDecimal text seconds nanos)
no_point text lacks seconds nanos is = nowhere 46 text is.front is.fraction lacks is.parts

decimal_splits : (text : List ℕ) (seconds nanos : ℕ) → (is : IsDecimal text seconds nanos)
    → IsSplit 46 text is.front is.fraction
decimal_splits text seconds nanos is =
    behind_number 46 greatest text is.front is.fraction seconds (omega arith) is.parts is.whole

-- the parts of a Decimal are those around the first point
pub decimal_parts : (text front back : List ℕ) (seconds nanos : ℕ) → IsSplit 46 text front back
    → IsDecimal text seconds nanos → IsNumber greatest front seconds × IsFraction back nanos
decimal_parts text front back seconds nanos split is =
    let both = one_split 46 text front is.front back is.fraction split (decimal_splits text seconds nanos is) in (
      subst (λ f. IsNumber greatest f seconds) (sym both.0) is.whole,
      subst (λ f. IsFraction f nanos) (sym both.1) is.behind,
    )

pub one_decimal : (text : List ℕ) (seconds nanos seconds' nanos' : ℕ) → IsDecimal text seconds nanos
    → IsDecimal text seconds' nanos' → (seconds ≡ seconds') × (nanos ≡ nanos')
one_decimal text seconds nanos seconds' nanos' is is' =
    let parts = decimal_parts text is'.front is'.fraction seconds nanos (decimal_splits text seconds' nanos' is') is in
    (one_number greatest is'.front seconds seconds' parts.0 is'.whole, parts.1.value ∙ sym is'.behind.value)

-- a Number is no Decimal
number_or_decimal : (text : List ℕ) (n seconds nanos : ℕ) → IsNumber greatest text n → ¬ (IsDecimal text seconds nanos)
number_or_decimal text n seconds nanos number is =
    no_point text (digits_lack 46 text (omega arith) number.digits.1) seconds nanos is

pub one_time : (text : List ℕ) (nanos nanos' : ℕ) → IsSeconds text nanos → IsSeconds text nanos' → nanos ≡ nanos'
one_time text nanos nanos' is is' = elim is [
  | inl whole ↦ elim is' [
    | inl whole' ↦
        let seconds = one_number greatest text whole.seconds whole'.seconds whole.number whole'.number in
        let value = whole.value in let value' = whole'.value in omega (arith, seconds, value, value')
    | inr decimal' ↦
        absurd (number_or_decimal text whole.seconds decimal'.seconds decimal'.behind whole.number decimal'.decimal)
  ]
  | inr decimal ↦ elim is' [
    | inl whole' ↦
        absurd (number_or_decimal text whole'.seconds decimal.seconds decimal.behind whole'.number decimal.decimal)
    | inr decimal' ↦
        let parts =
        one_decimal text decimal.seconds decimal.behind decimal'.seconds decimal'.behind decimal.decimal decimal'.decimal in
        let seconds : decimal.seconds ≡ decimal'.seconds = parts.0 in
        let behind : decimal.behind ≡ decimal'.behind = parts.1 in
        let value = decimal.value in let value' = decimal'.value in omega (arith, seconds, behind, value, value')
  ]
]

-- neither a Decimal nor a Number
pub no_seconds : (text : List ℕ) → ((seconds nanos : ℕ) → ¬ (IsDecimal text seconds nanos))
    → ((seconds : ℕ) → ¬ (IsNumber greatest text seconds)) → (nanos : ℕ) → ¬ (IsSeconds text nanos)
no_seconds text no_decimal no_number nanos is = elim is [
  | inl whole ↦ no_number whole.seconds whole.number
  | inr decimal ↦ no_decimal decimal.seconds decimal.behind decimal.decimal
]

-- a Number whose nanoseconds don't fit
pub big_number : (text : List ℕ) (seconds : ℕ) → IsNumber greatest text seconds → ¬ (seconds * 10 ^ 9 < 2 ^ 64)
    → (nanos : ℕ) → nanos < 2 ^ 64 → ¬ (IsSeconds text nanos)
big_number text seconds number big nanos small is =
    let same : nanos ≡ seconds * 10 ^ 9
    = one_time text nanos _ is (inl (record { seconds = seconds; number = number; value = refl })) in
    big (omega (arith, same, small))

-- a Decimal whose nanoseconds don't fit
pub big_decimal : (text : List ℕ) (seconds behind : ℕ) → IsDecimal text seconds behind
    → ¬ (seconds * 10 ^ 9 + behind < 2 ^ 64) → (nanos : ℕ) → nanos < 2 ^ 64 → ¬ (IsSeconds text nanos)
big_decimal text seconds behind decimal big nanos small is =
    let same : nanos ≡ seconds * 10 ^ 9 + behind
    = one_time text nanos _ is (inr (record { seconds = seconds; behind = behind; decimal = decimal; value = refl })) in
    big (omega (arith, same, small))

-- what a checked operation that answers None is told by
pub refused_by : {P : Type 0} (answer : Option ℕ) (value : ℕ) → SomeIff answer P value → IsNone answer → ¬ P
refused_by None value is none = is
refused_by (Some n) value is none = absurd (cc)
