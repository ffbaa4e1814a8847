-- The bytes of tokens, by their ASCII characters.
use Rattle.std.specs.Prelude.{ℕ, ◌==◌, ◌&&◌, ◌||◌, Bool, not, codes}
use Rattle.std.specs.Char.{is_ascii_alphabetic, is_ascii_alphanumeric, is_ascii_hexdigit}
use Rattle.std.specs.Int.{is_in_range}
use Rattle.std.specs.List.{list_any}

-- a space, a tab or a carriage return
abbrev pub is_blank : ℕ → Bool
is_blank c = ((c == 32) || (c == 9)) || (c == 13)

-- any byte but a line end
abbrev pub is_within_line : ℕ → Bool
is_within_line c = not (c == 10)

-- a letter or `_`
abbrev pub begins_word : ℕ → Bool
begins_word c = is_ascii_alphabetic c || (c == 95)

-- a letter, a digit or `_`
abbrev pub is_word_byte : ℕ → Bool
is_word_byte c = is_ascii_alphanumeric c || (c == 95)

-- a letter, a digit, `.` or `/`
abbrev pub is_numeral_byte : ℕ → Bool
is_numeral_byte c = (is_ascii_alphanumeric c || (c == 46)) || (c == 47)

-- a hexadecimal digit or `:`
abbrev pub is_group_byte : ℕ → Bool
is_group_byte c = is_ascii_hexdigit c || (c == 58)

-- a mark of one byte
abbrev pub is_mark : ℕ → Bool
is_mark c = list_any (λ mark. mark == c) (codes "{}()<>,:.=@*")

-- a byte that stands for itself in a string: `09`, `20` to `7e` and `80` to `ff`, without `"` and
-- `\`
abbrev pub is_plain : ℕ → Bool
is_plain c =
    ((c == 9) || (is_in_range 32 126 c || is_in_range 128 255 c))
    && (not (c == 34) && not (c == 92))
