-- What instructions compute of bytes.
use Rattle.std.specs.Prelude.{ℕ, ◌+◌, ◌^◌, ◌<◌, nat_eq, nat_lt, nat_le, true, false}
use Rattle.std.specs.Prelude.{List, [], ◌++◌, length, take, drop, if◌then◌else◌, Result, Ok, Err}
use Rattle.std.specs.List.{starts_with}
use Rattle.hilti_base.specs.declared.refusal.Raise.{Raise}
use Rattle.hilti_base.specs.declared.refusal.Raise.TheVariants.{ValueError}
use Rattle.hilti_bytes.specs.Pieces.{most_bytes}
use Rattle.hilti_values.specs.declared.value.Value.{Value}
use Rattle.hilti_values.specs.declared.value.Value.TheVariants as values
use Rattle.hilti_bytes_ops.specs.declared.operations.BytesUnary.{BytesUnary}
use Rattle.hilti_bytes_ops.specs.declared.operations.BytesUnary.TheVariants as unaries
use Rattle.hilti_bytes_ops.specs.declared.operations.BytesBinary.{BytesBinary}
use Rattle.hilti_bytes_ops.specs.declared.operations.BytesBinary.TheVariants as binaries
use Rattle.hilti_bytes_ops.specs.Finding.{place_of}
use Rattle.hilti_bytes_ops.specs.Numbers.{byte_at, integer_of, unsigned_of}

-- bytes, a whole number, and one of 8 bits
abbrev pub IsBytes : Value → Type 0
IsBytes (values.Bytes bytes) = Unit {0}
IsBytes _ = ⊥

abbrev pub IsInt : Value → Type 0
IsInt (values.Int n) = Unit {0}
IsInt _ = ⊥

abbrev pub IsSmallInt : Value → Type 0
IsSmallInt (values.Int n) = n < 2 ^ 8
IsSmallInt _ = ⊥

-- the bytes and the number that a value is; no other value is asked for them
abbrev pub bytes_of : Value → List ℕ
bytes_of (values.Bytes bytes) = bytes
bytes_of _ = []

abbrev pub whole_of : Value → ℕ
whole_of (values.Int n) = n
whole_of _ = 0

-- what is asked of the values
abbrev pub TakesOne : Value → Type 0
TakesOne a = IsBytes a

abbrev pub TakesTwo : BytesBinary → Value → Value → Type 0
TakesTwo binaries.Join a b = IsBytes a × IsBytes b
TakesTwo binaries.Find a b = IsBytes a × IsBytes b
TakesTwo binaries.Starts a b = IsBytes a × IsBytes b
TakesTwo binaries.Byte a b = IsBytes a × IsInt b
TakesTwo binaries.ToInt a b = IsBytes a × IsSmallInt b

abbrev pub TakesSub : Value → Value → Value → Type 0
TakesSub a at count = IsBytes a × (IsInt at × IsInt count)

-- a number, or the raise in its place
abbrev pub number : Result ℕ Raise → Result Value Raise
number (Ok n) = Ok (values.Int n)
number (Err raise) = Err raise

-- the bytes of two values, where one may have so many
abbrev pub joined_of : List ℕ → List ℕ → Result Value Raise
joined_of a b =
    if nat_lt most_bytes (length a + length b) then Err ValueError else Ok (values.Bytes (a ++ b))

-- so many bytes from a place on, where they don't reach past the end
abbrev pub piece_of : List ℕ → ℕ → ℕ → Result Value Raise
piece_of bytes at count =
    if nat_le (at + count) (length bytes) then Ok (values.Bytes (take count (drop at bytes)))
    else Err ValueError

-- what is computed of bytes
abbrev pub unary_of : BytesUnary → Value → Result Value Raise
unary_of unaries.Length a = Ok (values.Int (length (bytes_of a)))
unary_of unaries.ToUintBig a = number (unsigned_of true (bytes_of a))
unary_of unaries.ToUintLittle a = number (unsigned_of false (bytes_of a))

-- what is computed of two values
abbrev pub binary_of : BytesBinary → Value → Value → Result Value Raise
binary_of binaries.Join a b = joined_of (bytes_of a) (bytes_of b)
binary_of binaries.Find a b = number (place_of (bytes_of a) (bytes_of b))
binary_of binaries.Starts a b = Ok (values.Bool (starts_with nat_eq (bytes_of a) (bytes_of b)))
binary_of binaries.Byte a b = number (byte_at (bytes_of a) (whole_of b))
binary_of binaries.ToInt a b = number (integer_of (whole_of b) (bytes_of a))

-- the piece of bytes from a place on
abbrev pub sub_of : Value → Value → Value → Result Value Raise
sub_of a at count = piece_of (bytes_of a) (whole_of at) (whole_of count)
