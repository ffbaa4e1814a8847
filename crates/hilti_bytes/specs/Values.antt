-- The numbers that bytes write.
use Rattle.std.specs.Prelude.{◌≡◌, ◌⊎◌, ℕ, List, length, Bool, if◌then◌else◌}
use Rattle.byteorder.specs.Endian.{big_number, little_number}
use Rattle.hilti_base.specs.Numerals.{IsShortNumeral}

-- one digit or more of base 10 or 16, letters in either case, whose number is below 2 ^ 64
pub record IsInteger (base : ℕ) (text : List ℕ) : Type 0 where
  pub known : (base ≡ 10) ⊎ (base ≡ 16)
  pub numeral : IsShortNumeral base text

-- the number whose bytes these are, the highest first or the lowest first
abbrev pub number_of : Bool → List ℕ → ℕ
number_of big bytes =
    if big then big_number (length bytes) bytes else little_number (length bytes) bytes
