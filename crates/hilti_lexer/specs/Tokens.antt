-- The tokens that stand at the front of a text, by what they begin with, and why none does.
use Rattle.std.specs.Prelude.{◌≡◌, ◌⊎◌, ℕ, ◌+◌, ◌-◌, ◌<◌, ◌≤◌, ◌==◌, List, ◌∷◌, length, take, drop, slice_index, Bool}
use Rattle.std.specs.Prelude.{if◌then◌else◌}
use Rattle.std.specs.Char.{is_ascii_digit}
use Rattle.std.specs.List.{prefix_len}
use Rattle.hilti_lexer.specs.declared.beginning.Beginning.{Beginning}
use Rattle.hilti_lexer.specs.declared.beginning.Beginning.TheVariants as beginnings
use Rattle.hilti_lexer.specs.declared.fault.LexicalFault.{LexicalFault}
use Rattle.hilti_lexer.specs.declared.fault.LexicalFault.TheVariants as faults
use Rattle.hilti_lexer.specs.declared.token.TokenKind.{TokenKind}
use Rattle.hilti_lexer.specs.declared.token.TokenKind.TheVariants as kinds
use Rattle.hilti_lexer.specs.Beginnings.{beginning_of}
use Rattle.hilti_lexer.specs.Characters.{is_group_byte, is_numeral_byte, is_word_byte}
use Rattle.hilti_lexer.specs.Numerals.{IsBracketOf, IsNumeralOf, IsTooBig}
use Rattle.hilti_lexer.specs.Strings.{FailsInside, IsClosed}

-- the longest run of bytes at the front that pass a test
abbrev pub run : (ℕ → Bool) → List ℕ → List ℕ
run passes text = take (prefix_len passes text) text

-- what stands behind it
abbrev pub behind_run : (ℕ → Bool) → List ℕ → List ℕ
behind_run passes text = drop (prefix_len passes text) text

-- the longest run of letters, digits and `_`, of at most 255 bytes
pub record IsWord (text : List ℕ) (kind : TokenKind) (rest : List ℕ) : Type 0 where
  pub short : length (run is_word_byte text) ≤ 255
  pub kind_is : kind ≡ kinds.Word (run is_word_byte text)
  pub rest_is : rest ≡ behind_run is_word_byte text

-- the longest run of letters, digits, `.` and `/`, which has a form of numerals
pub record IsNumeralToken (text : List ℕ) (kind : TokenKind) (rest : List ℕ) : Type 0 where
  pub form : IsNumeralOf (run is_numeral_byte text) kind
  pub rest_is : rest ≡ behind_run is_numeral_byte text

-- what stands behind a `/` at the front and the longest run of digits behind it
abbrev pub behind_length : List ℕ → List ℕ
behind_length text =
    if slice_index text 0 == 47 then behind_run is_ascii_digit (drop 1 text) else text

-- what stands behind a bracket literal, which begins with its `[`: the longest run of hexadecimal
-- digits and `:`, one byte, which is its `]`, and where a `/` follows directly, that and its digits
abbrev pub behind_literal : List ℕ → List ℕ
behind_literal text = behind_length (drop 1 (behind_run is_group_byte (drop 1 text)))

-- these bytes themselves
abbrev pub literal : List ℕ → List ℕ
literal text = take (length text - length (behind_literal text)) text

-- such a literal, which is an address or a net
pub record IsBracketToken (text : List ℕ) (kind : TokenKind) (rest : List ℕ) : Type 0 where
  pub form : IsBracketOf (literal text) kind
  pub rest_is : rest ≡ behind_literal text

-- a `"`, bytes as they are spelled, and a `"`
pub record IsText (text : List ℕ) (kind : TokenKind) (rest : List ℕ) : Type 0 where
  pub value : List ℕ
  pub inside : List ℕ
  pub opened : text ≡ 34 ∷ inside
  pub closed : IsClosed inside value rest
  pub kind_is : kind ≡ kinds.Text value

-- the same behind a `b`
pub record IsBytes (text : List ℕ) (kind : TokenKind) (rest : List ℕ) : Type 0 where
  pub value : List ℕ
  pub inside : List ℕ
  pub opened : text ≡ 98 ∷ 34 ∷ inside
  pub closed : IsClosed inside value rest
  pub kind_is : kind ≡ kinds.Bytes value

-- one byte, a mark
pub record IsMarkToken (text : List ℕ) (kind : TokenKind) (rest : List ℕ) : Type 0 where
  pub kind_is : kind ≡ kinds.Mark (slice_index text 0)
  pub rest_is : rest ≡ drop 1 text

-- two colons, the mark 0
pub record IsTwoColons (text : List ℕ) (kind : TokenKind) (rest : List ℕ) : Type 0 where
  pub kind_is : kind ≡ kinds.Mark 0
  pub rest_is : rest ≡ drop 2 text

-- a line end
pub record IsLineEnd (text : List ℕ) (kind : TokenKind) (rest : List ℕ) : Type 0 where
  pub kind_is : kind ≡ kinds.LineEnd
  pub rest_is : rest ≡ drop 1 text

-- a token that begins so stands at the front of a text, with the rest behind it
abbrev pub StandsAs : Beginning → List ℕ → TokenKind → List ℕ → Type 0
StandsAs beginnings.Word text kind rest = IsWord text kind rest
StandsAs beginnings.Numeral text kind rest = IsNumeralToken text kind rest
StandsAs beginnings.Text text kind rest = IsText text kind rest
StandsAs beginnings.Bytes text kind rest = IsBytes text kind rest
StandsAs beginnings.Brackets text kind rest = IsBracketToken text kind rest
StandsAs beginnings.TwoColons text kind rest = IsTwoColons text kind rest
StandsAs beginnings.Mark text kind rest = IsMarkToken text kind rest
StandsAs beginnings.LineEnd text kind rest = IsLineEnd text kind rest
StandsAs beginnings.Nothing text kind rest = ⊥

-- this token stands at the front of a text, the longest there, with the rest behind it
abbrev pub Stands : List ℕ → TokenKind → List ℕ → Type 0
Stands text kind rest = StandsAs (beginning_of text) text kind rest

-- more than 255 letters, digits and `_`
pub record IsLongWord (text : List ℕ) (fault : LexicalFault) (offset : ℕ) : Type 0 where
  pub long : 255 < length (run is_word_byte text)
  pub fault_is : fault ≡ faults.LongWord
  pub offset_is : offset ≡ 0

-- the run is a number that is too big, or it has no form of numerals
pub record IsNoNumeral (text : List ℕ) (fault : LexicalFault) (offset : ℕ) : Type 0 where
  pub formless : (kind : TokenKind) → ¬ (IsNumeralOf (run is_numeral_byte text) kind)
  pub fault_is : (IsTooBig (run is_numeral_byte text) × (fault ≡ faults.NumberTooBig))
      ⊎ (¬ (IsTooBig (run is_numeral_byte text)) × (fault ≡ faults.BadNumeral))
  pub offset_is : offset ≡ 0

-- what a `[` begins is no bracket literal
pub record IsNoBracket (text : List ℕ) (fault : LexicalFault) (offset : ℕ) : Type 0 where
  pub formless : (kind : TokenKind) → ¬ (IsBracketOf (literal text) kind)
  pub fault_is : fault ≡ faults.BadAddress
  pub offset_is : offset ≡ 0

-- a string that isn't closed, or has a fault inside; the offset is that of the fault
pub record IsFaultyText (text : List ℕ) (fault : LexicalFault) (offset : ℕ) : Type 0 where
  pub inside : List ℕ
  pub opened : text ≡ 34 ∷ inside
  pub fails : FailsInside inside fault offset

-- the same behind a `b`
pub record IsFaultyBytes (text : List ℕ) (fault : LexicalFault) (offset : ℕ) : Type 0 where
  pub inside : List ℕ
  pub behind_quote : ℕ
  pub opened : text ≡ 98 ∷ 34 ∷ inside
  pub fails : FailsInside inside fault behind_quote
  pub offset_is : offset ≡ 1 + behind_quote

-- a byte that begins nothing
pub record IsBadByte (text : List ℕ) (fault : LexicalFault) (offset : ℕ) : Type 0 where
  pub some : 0 < length text
  pub fault_is : fault ≡ faults.BadByte
  pub offset_is : offset ≡ 0

-- what begins so is no token, for this fault, whose place is so many bytes further
abbrev pub FailsAs : Beginning → List ℕ → LexicalFault → ℕ → Type 0
FailsAs beginnings.Word text fault offset = IsLongWord text fault offset
FailsAs beginnings.Numeral text fault offset = IsNoNumeral text fault offset
FailsAs beginnings.Text text fault offset = IsFaultyText text fault offset
FailsAs beginnings.Bytes text fault offset = IsFaultyBytes text fault offset
FailsAs beginnings.Brackets text fault offset = IsNoBracket text fault offset
FailsAs beginnings.Nothing text fault offset = IsBadByte text fault offset
FailsAs beginnings.TwoColons text fault offset = ⊥
FailsAs beginnings.Mark text fault offset = ⊥
FailsAs beginnings.LineEnd text fault offset = ⊥

-- no token stands at the front of a text, for this fault, whose place is so many bytes further
abbrev pub Fails : List ℕ → LexicalFault → ℕ → Type 0
Fails text fault offset = FailsAs (beginning_of text) text fault offset
