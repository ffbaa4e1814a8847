-- Numerals of times and intervals, which count seconds.
use Rattle.std.specs.Prelude.{◌≡◌, ◌⊎◌, ℕ, ◌+◌, ◌-◌, ◌*◌, ◌^◌, ◌≤◌, List, ◌∷◌, ◌++◌, length}
use Rattle.std.specs.Str.Parse.{digits_value, IsNumeral}
use Rattle.hilti_base.specs.Numerals.{IsNumber, greatest}

-- the 1 to 9 digits behind a point, and the nanoseconds that they count
pub record IsFraction (text : List ℕ) (nanos : ℕ) : Type 0 where
  pub digits : IsNumeral 10 text
  pub short : length text ≤ 9
  pub value : nanos ≡ digits_value 10 text * 10 ^ (9 - length text)

-- a Decimal: a Number of seconds, a point, and 1 to 9 digits of a second
pub record IsDecimal (text : List ℕ) (seconds nanos : ℕ) : Type 0 where
  pub front : List ℕ
  pub fraction : List ℕ
  pub parts : text ≡ front ++ 46 ∷ fraction
  pub whole : IsNumber greatest front seconds
  pub behind : IsFraction fraction nanos

-- the nanoseconds of a Number of seconds
pub record IsOfNumber (text : List ℕ) (nanos : ℕ) : Type 0 where
  pub seconds : ℕ
  pub number : IsNumber greatest text seconds
  pub value : nanos ≡ seconds * 10 ^ 9

-- the nanoseconds of a Decimal
pub record IsOfDecimal (text : List ℕ) (nanos : ℕ) : Type 0 where
  pub seconds : ℕ
  pub behind : ℕ
  pub decimal : IsDecimal text seconds behind
  pub value : nanos ≡ seconds * 10 ^ 9 + behind

-- a Number or a Decimal of these nanoseconds
abbrev pub IsSeconds : List ℕ → ℕ → Type 0
IsSeconds text nanos = IsOfNumber text nanos ⊎ IsOfDecimal text nanos
