-- What stands between the quotes of strings and bytes literals.
use Rattle.std.specs.Prelude.{◌≡◌, ◌≢◌, ℕ, ◌+◌, ◌-◌, ◌*◌, ◌<◌, ◌==◌, List, [], ◌∷◌, length, slice_index, if◌then◌else◌, IsTrue, Option, Some, None}
use Rattle.std.specs.Char.{digit_value}
use Rattle.hilti_lexer.specs.declared.fault.LexicalFault.{LexicalFault}
use Rattle.hilti_lexer.specs.declared.fault.LexicalFault.TheVariants.{BadByte, BadNumeral, NumberTooBig, OpenString, BadEscape, LongWord, BadAddress}
use Rattle.hilti_lexer.specs.Characters.{is_plain}

-- the byte that a letter behind a `\` stands for: `\n`, `\t`, `\\` and `\"`
abbrev pub escaped : ℕ → Option ℕ
escaped letter =
    if letter == 110 then Some 10
    else if letter == 116 then Some 9
    else if letter == 92 then Some 92
    else if letter == 34 then Some 34
    else None

-- two hexadecimal digits, and the byte that they write
abbrev pub AreHex : ℕ → ℕ → Type 0
AreHex high low = (digit_value high < 16) × (digit_value low < 16)

abbrev pub byte_of : ℕ → ℕ → ℕ
byte_of high low = 16 * digit_value high + digit_value low

-- a byte of a string is spelled at the front of a text, with the rest behind it
pub data Spells (text : List ℕ) (byte : ℕ) (rest : List ℕ) : Type 0 where
  itself : IsTrue (is_plain byte) → text ≡ byte ∷ rest → Spells text byte rest
  by_letter : (letter : ℕ) → escaped letter ≡ Some byte → text ≡ 92 ∷ letter ∷ rest
      → Spells text byte rest
  by_number : (high low : ℕ) → digit_value high < 16 → digit_value low < 16
      → byte ≡ byte_of high low → text ≡ 92 ∷ 120 ∷ high ∷ low ∷ rest → Spells text byte rest

-- no byte of a string is spelled at the front of a text
abbrev pub NothingSpelled : List ℕ → Type 0
NothingSpelled text = (byte : ℕ) (rest : List ℕ) → ¬ (Spells text byte rest)

-- these bytes are spelled at the front of a text, one after another, with the rest behind them
abbrev pub AreSpelled : List ℕ → List ℕ → List ℕ → Type 0
AreSpelled [] text rest = text ≡ rest
AreSpelled (byte ∷ value) text rest =
    (behind : List ℕ) × Spells text byte behind × AreSpelled value behind rest

-- these bytes are spelled up to a `"`, with the rest behind it
abbrev pub IsClosed : List ℕ → List ℕ → List ℕ → Type 0
IsClosed inside value rest = AreSpelled value inside (34 ∷ rest)

-- the fault of what stands where neither a byte of a string is spelled nor a `"` stands
abbrev pub fault_at : List ℕ → LexicalFault
fault_at [] = OpenString
fault_at (c ∷ cs) = if c == 10 then OpenString else if c == 92 then BadEscape else BadByte

-- how far its place is behind the place of the opening `"`, where so many bytes were read behind
-- that
abbrev pub fault_offset : LexicalFault → ℕ → ℕ
fault_offset OpenString read = 0
fault_offset BadByte read = 1 + read
fault_offset BadNumeral read = 1 + read
fault_offset NumberTooBig read = 1 + read
fault_offset BadEscape read = 1 + read
fault_offset LongWord read = 1 + read
fault_offset BadAddress read = 1 + read

-- the first place behind the opening `"` where no byte is spelled has no `"`, and this fault
pub record FailsInside (inside : List ℕ) (fault : LexicalFault) (offset : ℕ) : Type 0 where
  pub value : List ℕ
  pub rest : List ℕ
  pub spelled : AreSpelled value inside rest
  pub stuck : NothingSpelled rest
  pub no_quote : slice_index rest 0 ≢ 34
  pub fault_is : fault ≡ fault_at rest
  pub offset_is : offset ≡ fault_offset fault (length inside - length rest)
