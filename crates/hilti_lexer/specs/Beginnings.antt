-- What a token at the front of a text begins with.
use Rattle.std.specs.Prelude.{ℕ, ◌==◌, ◌&&◌, List, if◌then◌else◌, slice_index}
use Rattle.std.specs.Char.{is_ascii_digit}
use Rattle.hilti_lexer.specs.declared.beginning.Beginning.{Beginning}
use Rattle.hilti_lexer.specs.declared.beginning.Beginning.TheVariants.{LineEnd, Word, Numeral, Text, Bytes, Brackets, TwoColons, Mark, Nothing}
use Rattle.hilti_lexer.specs.Characters.{begins_word, is_mark}

-- what a byte begins, whatever follows it
abbrev pub byte_begins : ℕ → Beginning
byte_begins c =
    if c == 10 then LineEnd
    else if begins_word c then Word
    else if is_ascii_digit c then Numeral
    else if c == 34 then Text
    else if c == 91 then Brackets
    else if is_mark c then Mark
    else Nothing

-- what the front of a text begins: the longest token, so that `b"` begins a bytes literal and
-- `::` is one mark
abbrev pub beginning_of : List ℕ → Beginning
beginning_of text =
    if (slice_index text 0 == 98) && (slice_index text 1 == 34) then Bytes
    else if (slice_index text 0 == 58) && (slice_index text 1 == 58) then TwoColons
    else byte_begins (slice_index text 0)
