-- The tokens of whole texts, and the first place where none begins.
use Rattle.std.specs.Prelude.{◌≡◌, ℕ, ◌+◌, ◌-◌, ◌≤◌, ◌==◌, List, [], ◌∷◌, length, slice_index, if◌then◌else◌}
use Rattle.hilti_base.specs.declared.names.Place.{Place}
use Rattle.hilti_lexer.specs.declared.fault.LexicalFault.{LexicalFault}
use Rattle.hilti_lexer.specs.declared.token.Token.{Token}
use Rattle.hilti_lexer.specs.declared.token.TokenKind.{TokenKind}
use Rattle.hilti_lexer.specs.declared.token.TokenKind.TheVariants.{Word, Number, Decimal, Address, Net, Port, Text, Bytes, Mark, LineEnd}
use Rattle.hilti_lexer.specs.Characters.{is_blank, is_within_line}
use Rattle.hilti_lexer.specs.Faults.{code_of}
use Rattle.hilti_lexer.specs.Tokens.{behind_run, Fails, Stands}

-- what stands behind a comment at the front: `#` and all bytes up to the line's end
abbrev pub behind_comment : List ℕ → List ℕ
behind_comment text = if slice_index text 0 == 35 then behind_run is_within_line text else text

-- what stands behind the blanks and the comment at the front
abbrev pub behind_gap : List ℕ → List ℕ
behind_gap text = behind_comment (behind_run is_blank text)

-- how many bytes stand before the rest of a text
abbrev pub distance : List ℕ → List ℕ → ℕ
distance text rest = length text - length rest

-- where a text begins
abbrev pub start : ℕ → Place
start file = record { file = file; line = 1; column = 1 }

-- the place of so many bytes further on the same line
abbrev pub further : Place → ℕ → Place
further place bytes = record place { column = place.column + bytes }

-- the place behind a token of so many bytes: a line end ends its line
abbrev pub place_behind : Place → TokenKind → ℕ → Place
place_behind place LineEnd bytes = record place { line = place.line + 1; column = 1 }
place_behind place (Word _) bytes = further place bytes
place_behind place (Number _) bytes = further place bytes
place_behind place (Decimal _ _) bytes = further place bytes
place_behind place (Address _) bytes = further place bytes
place_behind place (Net _ _) bytes = further place bytes
place_behind place (Port _ _) bytes = further place bytes
place_behind place (Text _) bytes = further place bytes
place_behind place (Bytes _) bytes = further place bytes
place_behind place (Mark _) bytes = further place bytes

-- the next token of a text that begins at a place, and the place and the text behind it
pub record IsNext (at : Place) (text : List ℕ) (token : Token) (behind : Place) (rest : List ℕ)
    : Type 0 where
  pub place_is : token.place ≡ further at (distance text (behind_gap text))
  pub stands : Stands (behind_gap text) token.kind rest
  pub behind_is : behind ≡ place_behind token.place token.kind (distance (behind_gap text) rest)

-- these tokens stand at the front of a text that begins at a place, one after another, with a
-- place and a text behind them
abbrev pub AreRead : Place → List ℕ → List Token → Place → List ℕ → Type 0
AreRead at text [] behind rest = (behind ≡ at) × (rest ≡ text)
AreRead at text (token ∷ tokens) behind rest =
    (after_token : Place) × (left : List ℕ) × IsNext at text token after_token left
    × AreRead after_token left tokens behind rest

-- the next token is missing, for the fault of this code at this place
pub record IsRefusedAt (at : Place) (text : List ℕ) (code : ℕ) (place : Place) : Type 0 where
  pub fault : LexicalFault
  pub offset : ℕ
  pub fails : Fails (behind_gap text) fault offset
  pub code_is : code ≡ code_of fault
  pub place_is : place ≡ further at (distance text (behind_gap text) + offset)

-- these are the tokens of a text
pub record Lexes (file : ℕ) (text : List ℕ) (tokens : List Token) : Type 0 where
  pub behind : Place
  pub rest : List ℕ
  pub read : AreRead (start file) text tokens behind rest
  pub finished : behind_gap rest ≡ []

-- a text is refused with a code and a place: those of the first place where no token begins
pub record Refuses (file : ℕ) (text : List ℕ) (code : ℕ) (place : Place) : Type 0 where
  pub tokens : List Token
  pub behind : Place
  pub rest : List ℕ
  pub read : AreRead (start file) text tokens behind rest
  pub missing : IsRefusedAt behind rest code place

-- the lines and columns of a text that begins at a place are at most one more than the bytes of
-- the longest text
pub record HasRoom (at : Place) (text : List ℕ) : Type 0 where
  pub lines : at.line + length text ≤ 1048577
  pub columns : at.column + length text ≤ 1048577
