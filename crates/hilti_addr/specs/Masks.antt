-- Addresses of 128 bits, and their masks.
use Rattle.std.specs.Prelude.{ℕ, ◌+◌, ◌-◌, ◌*◌, ◌/◌, ◌^◌, ◌==◌, Bool, if◌then◌else◌}
use Rattle.hilti_addr.specs.declared.net.Net.{Net}

-- the IPv6 form ::ffff:a.b.c.d of an IPv4 address
abbrev pub mapped : ℕ → ℕ
mapped n = 0xffff * 2 ^ 32 + n

-- an address in ::ffff:0:0/96, which is the form of an IPv4 address
abbrev pub is_mapped : ℕ → Bool
is_mapped a = a / 2 ^ 32 == 0xffff

-- the first len of the 128 bits are kept, and the others cleared
abbrev pub masked : ℕ → ℕ → ℕ
masked a len = a / 2 ^ (128 - len) * 2 ^ (128 - len)

-- how many bits stand above those that the lengths of an address count: an IPv4 address has 32
abbrev pub bits_above : ℕ → ℕ
bits_above a = if is_mapped a then 96 else 0

-- how many bits the lengths of an address count
abbrev pub most_bits : ℕ → ℕ
most_bits a = 128 - bits_above a

-- an address with only the first of those bits kept, so many
abbrev pub first_bits : ℕ → ℕ → ℕ
first_bits a len = masked a (bits_above a + len)

-- the net of so many of those bits
abbrev pub net_of : ℕ → ℕ → Net
net_of a len = record { addr = first_bits a len; len = bits_above a + len }
