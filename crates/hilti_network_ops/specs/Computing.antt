-- What instructions compute of addresses, nets and ports.
use Rattle.std.specs.Prelude.{ℕ, ◌-◌, ◌^◌, ◌<◌, ◌==◌, nat_le, Bool, true, false, not}
use Rattle.std.specs.Prelude.{if◌then◌else◌, Result, Ok, Err}
use Rattle.hilti_addr.specs.Masks.{bits_above, first_bits, masked, most_bits}
use Rattle.hilti_addr.specs.Masks.{net_of as first_net}
use Rattle.hilti_addr.specs.declared.net.Net.{Net}
use Rattle.hilti_addr.specs.declared.port.Port.{Port}
use Rattle.hilti_base.specs.declared.refusal.Raise.{Raise}
use Rattle.hilti_base.specs.declared.refusal.Raise.TheVariants.{ValueError}
use Rattle.hilti_values.specs.declared.value.Value.{Value}
use Rattle.hilti_values.specs.declared.value.Value.TheVariants as values
use Rattle.hilti_network_ops.specs.declared.operations.NetworkUnary.{NetworkUnary}
use Rattle.hilti_network_ops.specs.declared.operations.NetworkUnary.TheVariants as unaries
use Rattle.hilti_network_ops.specs.declared.operations.NetworkBinary.{NetworkBinary}
use Rattle.hilti_network_ops.specs.declared.operations.NetworkBinary.TheVariants as binaries

-- a whole number, one of 16 bits, an address, a net, and a port
abbrev pub IsInt : Value → Type 0
IsInt (values.Int n) = Unit {0}
IsInt _ = ⊥

abbrev pub IsPortNumber : Value → Type 0
IsPortNumber (values.Int n) = n < 2 ^ 16
IsPortNumber _ = ⊥

abbrev pub IsAddr : Value → Type 0
IsAddr (values.Addr address) = Unit {0}
IsAddr _ = ⊥

abbrev pub IsNet : Value → Type 0
IsNet (values.Net length address) = Unit {0}
IsNet _ = ⊥

abbrev pub IsPort : Value → Type 0
IsPort (values.Port number is_udp) = Unit {0}
IsPort _ = ⊥

-- the number, the address, the net and the port that a value is; no other value is asked for them
abbrev pub whole_of : Value → ℕ
whole_of (values.Int n) = n
whole_of _ = 0

abbrev pub address_of : Value → ℕ
address_of (values.Addr address) = address
address_of _ = 0

abbrev pub net_of : Value → Net
net_of (values.Net length address) = record { addr = address; len = length }
net_of _ = record { addr = 0; len = 0 }

abbrev pub port_of : Value → Port
port_of (values.Port number is_udp) = record { number = number; udp = is_udp }
port_of _ = record { number = 0; udp = false }

-- what is asked of the values
abbrev pub TakesOne : NetworkUnary → Value → Type 0
TakesOne unaries.NetAddr a = IsNet a
TakesOne unaries.NetLength a = IsNet a
TakesOne unaries.PortTcp a = IsPortNumber a
TakesOne unaries.PortUdp a = IsPortNumber a
TakesOne unaries.PortNumber a = IsPort a
TakesOne unaries.PortIsTcp a = IsPort a

abbrev pub TakesTwo : NetworkBinary → Value → Value → Type 0
TakesTwo binaries.AddrMask a b = IsAddr a × IsInt b
TakesTwo binaries.NetMake a b = IsAddr a × IsInt b
TakesTwo binaries.NetContains a b = IsNet a × IsAddr b

-- what is made of an address and a number of bits, where the lengths of the address go so far
abbrev pub within_bits : {A : Type 0} → ℕ → ℕ → A → Result A Raise
within_bits address bits made = if nat_le bits (most_bits address) then Ok made else Err ValueError

-- a net's length as it is counted for its address
abbrev pub net_length : Net → ℕ
net_length net = net.len - bits_above net.addr

-- a net as a value
abbrev pub net_value : Net → Value
net_value net = values.Net net.len net.addr

-- whether an address has the first bits of a net
abbrev pub has_first_bits : Net → ℕ → Bool
has_first_bits net address = masked address net.len == masked net.addr net.len

-- what is computed of a value
abbrev pub unary_of : NetworkUnary → Value → Value
unary_of unaries.NetAddr a = values.Addr (net_of a).addr
unary_of unaries.NetLength a = values.Int (net_length (net_of a))
unary_of unaries.PortTcp a = values.Port (whole_of a) false
unary_of unaries.PortUdp a = values.Port (whole_of a) true
unary_of unaries.PortNumber a = values.Int (port_of a).number
unary_of unaries.PortIsTcp a = values.Bool (not (port_of a).udp)

-- what is computed of two values
abbrev pub binary_of : NetworkBinary → Value → Value → Result Value Raise
binary_of binaries.AddrMask a b =
    within_bits (address_of a) (whole_of b) (values.Addr (first_bits (address_of a) (whole_of b)))
binary_of binaries.NetMake a b =
    within_bits (address_of a) (whole_of b) (net_value (first_net (address_of a) (whole_of b)))
binary_of binaries.NetContains a b = Ok (values.Bool (has_first_bits (net_of a) (address_of b)))
