-- The forms of numerals and of bracket literals.
use Rattle.std.specs.Prelude.{◌≡◌, ◌≢◌, ◌⊎◌, ℕ, ◌^◌, ◌≤◌, List, ◌∷◌, length, slice_index}
use Rattle.std.specs.Str.Parse.{digits_value, IsNumeral}
use Rattle.hilti_addr.specs.Brackets.{IsBracketAddress, IsBracketNet}
use Rattle.hilti_addr.specs.Texts.{IsDottedAddress, IsDottedNet, IsPort}
use Rattle.hilti_base.specs.Numerals.{IsNumber, greatest}
use Rattle.hilti_clock.specs.Numerals.{IsDecimal}
use Rattle.hilti_lexer.specs.declared.token.TokenKind.{TokenKind}
use Rattle.hilti_lexer.specs.declared.token.TokenKind.TheVariants.{Word, Number, Decimal, Address, Net, Port, Text, Bytes, Mark, LineEnd}

-- `0x` and 1 to 16 hexadecimal digits in either case
pub record IsHex (text : List ℕ) (n : ℕ) : Type 0 where
  pub digits : List ℕ
  pub parts : text ≡ 48 ∷ 120 ∷ digits
  pub written : IsNumeral 16 digits
  pub short : length digits ≤ 16
  pub value : n ≡ digits_value 16 digits

-- the text has the form of this kind of numeral, with this value
abbrev pub IsNumeralOf : List ℕ → TokenKind → Type 0
IsNumeralOf text (Number n) = IsNumber greatest text n ⊎ IsHex text n
IsNumeralOf text (Decimal seconds nanos) = IsDecimal text seconds nanos
IsNumeralOf text (Address address) = IsDottedAddress text address
IsNumeralOf text (Net address len) =
    IsDottedNet text (record { addr = address; len = len })
IsNumeralOf text (Port number udp) = IsPort text (record { number = number; udp = udp })
IsNumeralOf text (Word _) = ⊥
IsNumeralOf text (Text _) = ⊥
IsNumeralOf text (Bytes _) = ⊥
IsNumeralOf text (Mark _) = ⊥
IsNumeralOf text LineEnd = ⊥

-- the text is a bracket literal, an address or a net, with this value
abbrev pub IsBracketOf : List ℕ → TokenKind → Type 0
IsBracketOf text (Address address) = IsBracketAddress text address
IsBracketOf text (Net address len) =
    IsBracketNet text (record { addr = address; len = len })
IsBracketOf text (Number _) = ⊥
IsBracketOf text (Decimal _ _) = ⊥
IsBracketOf text (Port _ _) = ⊥
IsBracketOf text (Word _) = ⊥
IsBracketOf text (Text _) = ⊥
IsBracketOf text (Bytes _) = ⊥
IsBracketOf text (Mark _) = ⊥
IsBracketOf text LineEnd = ⊥

-- digits without a leading zero, of a number above the greatest
pub record IsTooBig (text : List ℕ) : Type 0 where
  pub digits : IsNumeral 10 text
  pub plain : slice_index text 0 ≢ 48
  pub big : 2 ^ 64 ≤ digits_value 10 text
