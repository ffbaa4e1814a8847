-- The texts of addresses, nets and ports.
use Rattle.std.specs.Prelude.{◌≡◌, ℕ, ◌+◌, ◌*◌, ◌^◌, Bool, if◌then◌else◌, List, [], ◌∷◌, ◌++◌}
use Rattle.hilti_base.specs.Numerals.{IsNumber}
use Rattle.hilti_addr.specs.declared.net.Net.{Net}
use Rattle.hilti_addr.specs.declared.port.Port.{Port}
use Rattle.hilti_addr.specs.Brackets.{IsBracketAddress, IsBracketNet}
use Rattle.hilti_addr.specs.Masks.{mapped, net_of}

-- a number up to 255 and a point, with the rest behind it
pub record IsPart (text : List ℕ) (n : ℕ) (rest : List ℕ) : Type 0 where
  pub front : List ℕ
  pub parts : text ≡ front ++ 46 ∷ rest
  pub number : IsNumber 255 front n

-- four numbers up to 255, joined by points
pub record IsDottedAddress (text : List ℕ) (address : ℕ) : Type 0 where
  pub first : List ℕ
  pub second : List ℕ
  pub third : List ℕ
  pub fourth : List ℕ
  pub a : ℕ
  pub b : ℕ
  pub c : ℕ
  pub d : ℕ
  pub parts : text ≡ first ++ 46 ∷ (second ++ 46 ∷ (third ++ 46 ∷ fourth))
  pub at_first : IsNumber 255 first a
  pub at_second : IsNumber 255 second b
  pub at_third : IsNumber 255 third c
  pub at_fourth : IsNumber 255 fourth d
  pub value : address ≡ mapped (a * 2 ^ 24 + b * 2 ^ 16 + c * 2 ^ 8 + d)

-- such an address, a slash, and a number up to 32
pub record IsDottedNet (text : List ℕ) (net : Net) : Type 0 where
  pub front : List ℕ
  pub back : List ℕ
  pub address : ℕ
  pub len : ℕ
  pub parts : text ≡ front ++ 47 ∷ back
  pub at_front : IsDottedAddress front address
  pub at_back : IsNumber 32 back len
  pub value : net ≡ net_of address len

-- an address: numbers joined by points, or groups between brackets
pub data IsAddress (text : List ℕ) (address : ℕ) : Type 0 where
  dotted : IsDottedAddress text address → IsAddress text address
  bracketed : IsBracketAddress text address → IsAddress text address

-- a net: such an address, a slash, and how many bits are kept
pub data IsNet (text : List ℕ) (net : Net) : Type 0 where
  dotted_net : IsDottedNet text net → IsNet text net
  bracketed_net : IsBracketNet text net → IsNet text net

-- `udp` or `tcp`
abbrev pub protocol : Bool → List ℕ
protocol udp = if udp then 117 ∷ 100 ∷ 112 ∷ [] else 116 ∷ 99 ∷ 112 ∷ []

-- a number up to 65,535, a slash, and the protocol
pub record IsPort (text : List ℕ) (port : Port) : Type 0 where
  pub front : List ℕ
  pub parts : text ≡ front ++ 47 ∷ protocol port.udp
  pub at_front : IsNumber 65535 front port.number
