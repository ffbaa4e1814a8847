-- The texts of addresses of 128 bits, and of nets of them, between brackets.
use Rattle.std.specs.Prelude.{◌≡◌, ℕ, ◌+◌, ◌-◌, ◌*◌, ◌^◌, ◌≤◌}
use Rattle.std.specs.Prelude.{List, [], ◌∷◌, ◌++◌, length, replicate}
use Rattle.std.specs.Str.Parse.{digits_value, IsNumeral}
use Rattle.hilti_base.specs.Numerals.{IsNumber}
use Rattle.hilti_addr.specs.declared.net.Net.{Net}
use Rattle.hilti_addr.specs.Masks.{masked}

-- 1 to 4 hexadecimal digits, in either case
pub record IsGroup (text : List ℕ) (n : ℕ) : Type 0 where
  pub digits : IsNumeral 16 text
  pub short : length text ≤ 4
  pub value : n ≡ digits_value 16 text

-- a first group and others, joined by `:`
abbrev pub AreJoined : List ℕ → ℕ → List ℕ → Type 0
AreJoined text first [] = IsGroup text first
AreJoined text first (next ∷ others) =
    (front : List ℕ) × (back : List ℕ) × (text ≡ front ++ 58 ∷ back) × IsGroup front first
    × AreJoined back next others

-- groups joined by `:`; the empty text for none
abbrev pub AreGroups : List ℕ → List ℕ → Type 0
AreGroups text [] = text ≡ []
AreGroups text (first ∷ others) = AreJoined text first others

-- the number of groups, the highest first, each of 16 bits
abbrev pub number_of : List ℕ → ℕ
number_of [] = 0
number_of (first ∷ others) = first * 65536 ^ length others + number_of others

-- the groups before a `::` and after it, with the zero groups that it stands for
abbrev pub filled : List ℕ → List ℕ → List ℕ
filled before after = before ++ (replicate (8 - (length before + length after)) 0 ++ after)

-- an address as its groups: all 8 of them, or at most 7 around a `::`
pub data IsSpelled (text : List ℕ) (address : ℕ) : Type 0 where
  whole : (groups : List ℕ) → AreGroups text groups → length groups ≡ 8
      → address ≡ number_of groups → IsSpelled text address
  shortened : (front back before after : List ℕ) → text ≡ front ++ 58 ∷ 58 ∷ back
      → AreGroups front before → AreGroups back after → length before + length after ≤ 7
      → address ≡ number_of (filled before after) → IsSpelled text address

-- `[`, an address as its groups, and `]`
pub record IsBracketAddress (text : List ℕ) (address : ℕ) : Type 0 where
  pub inside : List ℕ
  pub parts : text ≡ 91 ∷ (inside ++ 93 ∷ [])
  pub spelled : IsSpelled inside address

-- such an address, a slash, and a number up to 128: the bits that are kept, from the top
pub record IsBracketNet (text : List ℕ) (net : Net) : Type 0 where
  pub front : List ℕ
  pub back : List ℕ
  pub address : ℕ
  pub len : ℕ
  pub parts : text ≡ front ++ 47 ∷ back
  pub at_front : IsBracketAddress front address
  pub at_back : IsNumber 128 back len
  pub value : net ≡ record { addr = masked address len; len = len }
