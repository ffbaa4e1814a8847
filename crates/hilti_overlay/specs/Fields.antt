-- Fields of packet bytes.
use Rattle.std.specs.Prelude.{ℕ, ◌+◌, ◌-◌, ◌/◌, ◌%◌, ◌^◌, ◌<◌, ◌≤◌, List, take, drop, Option, Some, None, true, false}
use Rattle.byteorder.specs.Endian.{big_number, little_number}
use Rattle.hilti_addr.specs.Masks.{mapped}
use Rattle.hilti_overlay.specs.declared.field.Form.{Form}
use Rattle.hilti_overlay.specs.declared.field.Form.TheVariants.{U8, U16Big, U32Big, U64Big, U16Little, U32Little, U64Little}
use Rattle.hilti_overlay.specs.declared.field.Form.TheVariants.{Ipv4, Ipv6, PortTcp, PortUdp, Bytes}
use Rattle.hilti_overlay.specs.declared.field.Scalar.{Scalar}
use Rattle.hilti_overlay.specs.declared.field.Scalar.TheVariants as scalars
use Rattle.hilti_overlay.specs.declared.field.Unpack.{Unpack}

-- the bytes of a form
abbrev pub size_of : Form → ℕ
size_of U8 = 1
size_of U16Big = 2
size_of U32Big = 4
size_of U64Big = 8
size_of U16Little = 2
size_of U32Little = 4
size_of U64Little = 8
size_of Ipv4 = 4
size_of Ipv6 = 16
size_of PortTcp = 2
size_of PortUdp = 2
size_of (Bytes n) = n

-- the bits of a form that is a number, and none of another
abbrev pub width_of : Form → ℕ
width_of U8 = 8
width_of U16Big = 16
width_of U32Big = 32
width_of U64Big = 64
width_of U16Little = 16
width_of U32Little = 32
width_of U64Little = 64
width_of _ = 0

-- a form may have no bit range, and one that is a number may have one of its bits
abbrev pub Allows : Form → Option (ℕ × ℕ) → Type 0
Allows form None = Unit {0}
Allows form (Some range) = (range.0 ≤ range.1) × (range.1 < width_of form)

-- the bits of a number from the first of a range to the last, bit 0 the lowest
abbrev pub bits_in : Option (ℕ × ℕ) → ℕ → ℕ
bits_in None n = n
bits_in (Some range) n = n / 2 ^ range.0 % 2 ^ (range.1 - range.0 + 1)

-- the value of a form's own bytes, which stand at a place
abbrev pub value_of : Form → Option (ℕ × ℕ) → ℕ → List ℕ → Scalar
value_of U8 bits at bytes = scalars.Int (bits_in bits (big_number 1 bytes))
value_of U16Big bits at bytes = scalars.Int (bits_in bits (big_number 2 bytes))
value_of U32Big bits at bytes = scalars.Int (bits_in bits (big_number 4 bytes))
value_of U64Big bits at bytes = scalars.Int (bits_in bits (big_number 8 bytes))
value_of U16Little bits at bytes = scalars.Int (bits_in bits (little_number 2 bytes))
value_of U32Little bits at bytes = scalars.Int (bits_in bits (little_number 4 bytes))
value_of U64Little bits at bytes = scalars.Int (bits_in bits (little_number 8 bytes))
value_of Ipv4 bits at bytes = scalars.Addr (mapped (big_number 4 bytes))
value_of Ipv6 bits at bytes = scalars.Addr (big_number 16 bytes)
value_of PortTcp bits at bytes = scalars.Port (big_number 2 bytes) false
value_of PortUdp bits at bytes = scalars.Port (big_number 2 bytes) true
value_of (Bytes n) bits at bytes = scalars.Range at n

-- where a field begins in a piece, and where it ends
abbrev pub start_of : Unpack → ℕ → ℕ
start_of field from = from + field.offset

abbrev pub end_of : Unpack → ℕ → ℕ
end_of field from = start_of field from + size_of field.form

-- the value of a field of a piece
abbrev pub field_value : Unpack → List ℕ → ℕ → Scalar
field_value field piece from =
    value_of field.form field.bits (start_of field from)
    (take (size_of field.form) (drop (start_of field from) piece))
