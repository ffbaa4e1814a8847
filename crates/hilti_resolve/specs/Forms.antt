-- The forms of the fields of overlays.
use Rattle.std.specs.Prelude.{ℕ, ◌==◌, ◌&&◌, nat_le, nat_lt, Bool, true, false, cond, codes}
use Rattle.std.specs.Prelude.{bytes_eq, List, Option, Some, None}
use Rattle.hilti_module.specs.declared.module.Bits.{Bits}
use Rattle.hilti_module.specs.declared.module.Form.{Form}
use Rattle.hilti_module.specs.declared.module.Form.TheVariants as forms
use Rattle.hilti_types.specs.declared.value_type.ValueType.{ValueType}
use Rattle.hilti_types.specs.declared.value_type.ValueType.TheVariants as types
use Rattle.hilti_resolve.specs.declared.form.FieldForm.{FieldForm}

-- the width of the numbers of a form of numbers
abbrev pub width_of : List ℕ → Option ℕ
width_of word =
    cond (bytes_eq word (codes "U8")) (Some 8)
    (cond (bytes_eq word (codes "U16Big")) (Some 16)
    (cond (bytes_eq word (codes "U32Big")) (Some 32)
    (cond (bytes_eq word (codes "U64Big")) (Some 64)
    (cond (bytes_eq word (codes "U16Little")) (Some 16)
    (cond (bytes_eq word (codes "U32Little")) (Some 32)
    (cond (bytes_eq word (codes "U64Little")) (Some 64) None))))))

abbrev pub is_address_form : List ℕ → Bool
is_address_form word = cond (bytes_eq word (codes "IPv4")) true (bytes_eq word (codes "IPv6"))

abbrev pub is_port_form : List ℕ → Bool
is_port_form word = cond (bytes_eq word (codes "PortTCP")) true (bytes_eq word (codes "PortUDP"))

abbrev pub is_int : ℕ → ValueType → Bool
is_int width (types.Int bits) = bits == width
is_int width _ = false

abbrev pub is_addr : ValueType → Bool
is_addr types.Addr = true
is_addr _ = false

abbrev pub is_port : ValueType → Bool
is_port types.Port = true
is_port _ = false

abbrev pub is_bytes : ValueType → Bool
is_bytes types.Bytes = true
is_bytes _ = false

-- a field without a range of bits
abbrev pub whole : ℕ → Option FieldForm
whole size = Some (record { size = size; bits = None })

-- a range of bits has its lowest at most at its highest, which is below the width
abbrev pub bits_in : ℕ → Option Bits → Option FieldForm
bits_in width None = whole 0
bits_in width (Some range) =
    cond (nat_le range.low.value range.high.value && nat_lt range.high.value width)
    (Some (record { size = 0; bits = Some (record { 0 = range.low.value; 1 = range.high.value }) }))
    None

-- a word of addresses or ports takes no range of bits
abbrev pub without_bits : Bool → Option Bits → Option FieldForm
without_bits false bits = None
without_bits true None = whole 0
without_bits true (Some range) = None

-- what a word says as a form
abbrev pub word_form : ValueType → List ℕ → Option ℕ → Option Bits → Option FieldForm
word_form kind word (Some width) bits = cond (is_int width kind) (bits_in width bits) None
word_form kind word None bits =
    cond (is_address_form word) (without_bits (is_addr kind) bits)
    (without_bits (is_port_form word && is_port kind) bits)

-- the form of a field of this type, or none where it breaks the rules: a form of numbers asks for
-- an `int` of its width, `IPv4` for an addr, `PortTCP` and `PortUDP` for a port, and `Bytes(n)`,
-- with n at most 65,535, for bytes
abbrev pub form_of : ValueType → Form → Option FieldForm
form_of kind (forms.Bytes place length) =
    cond (is_bytes kind && nat_le length.value 65535) (whole length.value) None
form_of kind (forms.Word word bits) = word_form kind word.bytes (width_of word.bytes) bits
