-- The texts of addresses, nets and ports.
use Rattle.std.specs.Prelude.{◌≡◌, ℕ, ◌+◌, ◌-◌, ◌/◌, ◌%◌, ◌^◌, ◌<◌, ◌≤◌, Bool}
use Rattle.std.specs.Prelude.{List, [], ◌∷◌, ◌++◌, map, length, take, drop, replicate, codes}
use Rattle.std.specs.Prelude.{if◌then◌else◌}
use Rattle.std.specs.Fmt.{decimal}
use Rattle.std.specs.Net.Text.{dotted_text, groups_text, hex_groups_text}
use Rattle.hilti_addr.specs.declared.net.Net.{Net}
use Rattle.hilti_addr.specs.Masks.{bits_above, is_mapped, masked}

-- the groups of 16 bits of an address
abbrev pub groups_of : ℕ → List ℕ
groups_of a =
    map (λ bit. a / 2 ^ bit % 2 ^ 16) (112 ∷ 96 ∷ 80 ∷ 64 ∷ 48 ∷ 32 ∷ 16 ∷ 0 ∷ [])

-- so many groups from a place on, each of them zero
pub record IsZeroRun (groups : List ℕ) (start count : ℕ) : Type 0 where
  pub within : start + count ≤ length groups
  pub zeros : take count (drop start groups) ≡ replicate count 0

-- the longest run of zero groups, and the first of equal ones
pub record IsLongestRun (groups : List ℕ) (start count : ℕ) : Type 0 where
  pub run : IsZeroRun groups start count
  pub longest : (other many : ℕ) → IsZeroRun groups other many → many ≤ count
  pub first : (other : ℕ) → IsZeroRun groups other count → start ≤ other

-- Groups in hexadecimal with colons between them. Where two zeros or more stand side by side, `::`
-- stands for the longest run of them, the first of equal ones (RFC 5952).
pub data IsGroupsText (groups text : List ℕ) : Type 0 where
  whole : ((start count : ℕ) → IsZeroRun groups start count → count < 2)
      → text ≡ groups_text groups → IsGroupsText groups text
  shortened : (start count : ℕ) → IsLongestRun groups start count → 2 ≤ count
      → text
      ≡ groups_text (take start groups) ++ codes "::" ++ groups_text (drop (start + count) groups)
      → IsGroupsText groups text

-- the last four bytes in decimal with dots between them
abbrev pub ipv4_text : ℕ → List ℕ
ipv4_text a =
    dotted_text (a / 2 ^ 24 % 2 ^ 8) (a / 2 ^ 16 % 2 ^ 8) (a / 2 ^ 8 % 2 ^ 8) (a / 2 ^ 0 % 2 ^ 8)

-- an IPv4 address by its bytes, and another by the text of its groups
unfoldable pub address_text : ℕ → List ℕ
address_text a = if is_mapped a then ipv4_text a else hex_groups_text (groups_of a)

-- a net's length counts from the top of 32 bits where its address is an IPv4 one, else of 128
unfoldable pub net_text : ℕ → ℕ → List ℕ
net_text address length =
    address_text address ++ codes "/" ++ decimal (length - bits_above address)

abbrev pub protocol_text : Bool → List ℕ
protocol_text is_udp = if is_udp then codes "/udp" else codes "/tcp"

abbrev pub port_text : ℕ → Bool → List ℕ
port_text number is_udp = decimal number ++ protocol_text is_udp

-- an address as a module writes it: an IPv4 one by its text, another by its text between brackets
abbrev pub address_literal : ℕ → List ℕ
address_literal a =
    if is_mapped a then address_text a else codes "[" ++ address_text a ++ codes "]"

-- a net as a module writes it
abbrev pub net_literal : Net → List ℕ
net_literal net =
    address_literal net.addr ++ codes "/" ++ decimal (net.len - bits_above net.addr)

-- a net of 128 bits, with no bit past its length
pub record IsMasked (net : Net) : Type 0 where
  pub fits : net.addr < 2 ^ 128
  pub within : net.len ≤ 128
  pub cleared : masked net.addr net.len ≡ net.addr
