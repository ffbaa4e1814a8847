-- The texts of numbers, times and bytes.
use Rattle.std.specs.Prelude.{ℕ, ◌-◌, ◌/◌, ◌%◌, ◌==◌, ◌||◌, List, [], ◌∷◌, ◌++◌, length}
use Rattle.std.specs.Prelude.{replicate, nat_lt, codes, if◌then◌else◌}
use Rattle.std.specs.Char.{digit_char}
use Rattle.std.specs.Fmt.{decimal}
use Rattle.std.specs.List.{flat_map}

-- a number below 10^9 in nine digits
abbrev pub nine_digits_of : ℕ → List ℕ
nine_digits_of n = replicate (9 - length (decimal n)) 48 ++ decimal n

-- nanoseconds as seconds, a dot and nine digits
unfoldable pub moment_text : ℕ → List ℕ
moment_text nanos = decimal (nanos / 1000000000) ++ codes "." ++ nine_digits_of (nanos % 1000000000)

-- quotes and backslashes behind a backslash, other printable bytes of ASCII as they are, the rest
-- as two hexadecimal digits
unfoldable pub byte_text : ℕ → List ℕ
byte_text byte =
    if byte == 34 || byte == 92 then 92 ∷ byte ∷ []
    else (if nat_lt byte 32 || nat_lt 126 byte then codes "\\x"
    ++ digit_char (byte / 16) ∷ digit_char (byte % 16) ∷ []
    else byte ∷ [])

abbrev pub escaped_text : List ℕ → List ℕ
escaped_text bytes = flat_map byte_text bytes
