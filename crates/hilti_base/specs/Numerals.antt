-- Texts of numbers, and what stands on both sides of a byte.
use Rattle.std.specs.Prelude.{◌≡◌, ◌≢◌, ◌⊎◌, ℕ, ◌-◌, ◌^◌, ◌<◌, ◌≤◌, List, ◌∷◌, ◌++◌, length, slice_index}
use Rattle.std.specs.List.{All}
use Rattle.std.specs.Str.Parse.{digits_value, IsNumeral}

-- the greatest number of 64 bits
abbrev pub greatest : ℕ
greatest = 2 ^ 64 - 1

-- one digit or more of a base, letters in either case, whose number has 64 bits
pub record IsShortNumeral (base : ℕ) (text : List ℕ) : Type 0 where
  pub digits : IsNumeral base text
  pub small : digits_value base text < 2 ^ 64

-- `0`, or decimal digits without a leading zero, of a number up to a greatest
pub record IsNumber (most : ℕ) (text : List ℕ) (n : ℕ) : Type 0 where
  pub digits : IsNumeral 10 text
  pub plain : (length text ≡ 1) ⊎ (slice_index text 0 ≢ 48)
  pub value : n ≡ digits_value 10 text
  pub small : n ≤ most

-- a byte stands nowhere in a text
abbrev pub Lacks : ℕ → List ℕ → Type 0
Lacks byte text = All (λ c. c ≢ byte) text

-- what stands before the first of a byte, and behind it
pub record IsSplit (byte : ℕ) (text front back : List ℕ) : Type 0 where
  pub parts : text ≡ front ++ byte ∷ back
  pub first : Lacks byte front
