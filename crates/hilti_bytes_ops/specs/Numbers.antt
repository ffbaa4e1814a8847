-- The numbers that bytes write.
use Rattle.std.specs.Prelude.{ℕ, ◌^◌, ◌==◌, ◌&&◌, ◌||◌, nat_lt, nat_le, Bool, List, length}
use Rattle.std.specs.Prelude.{slice_index, if◌then◌else◌, Result, Ok, Err}
use Rattle.std.specs.Char.{is_digit}
use Rattle.std.specs.List.{list_all}
use Rattle.std.specs.Str.Parse.{digits_value}
use Rattle.hilti_base.specs.declared.refusal.Raise.{Raise}
use Rattle.hilti_base.specs.declared.refusal.Raise.TheVariants.{IndexError, ValueError}
use Rattle.hilti_bytes.specs.Values.{number_of}

-- whether all bytes are digits of a base, letters in either case
abbrev pub all_digits : ℕ → List ℕ → Bool
all_digits base text = list_all (λ c. is_digit c base) text

-- whether bytes are one digit or more of base 10 or 16, of a number of 64 bits
abbrev pub is_integer : ℕ → List ℕ → Bool
is_integer base text =
    (base == 10 || base == 16)
    && ((nat_lt 0 (length text) && all_digits base text)
    && nat_lt (digits_value base text) (2 ^ 64))

abbrev pub integer_of : ℕ → List ℕ → Result ℕ Raise
integer_of base text = if is_integer base text then Ok (digits_value base text) else Err ValueError

-- the number of 1 to 8 bytes, the highest first or the lowest first
abbrev pub unsigned_of : Bool → List ℕ → Result ℕ Raise
unsigned_of is_big bytes =
    if nat_le 1 (length bytes) && nat_le (length bytes) 8 then Ok (number_of is_big bytes)
    else Err ValueError

-- the byte at a place
abbrev pub byte_at : List ℕ → ℕ → Result ℕ Raise
byte_at bytes at = if nat_lt at (length bytes) then Ok (slice_index bytes at) else Err IndexError
