-- The range of all bits of a number.
use Rattle.std.proofs.Common.{◌≡◌, ℕ, zero, suc, ◌+◌, ◌-◌, ◌*◌, ◌/◌, ◌%◌, ◌^◌, ◌<◌, ◌≤◌, List, length, get_or, refl, ap, ◌∙◌, inl, inr, arith}
use Rattle.std.specs.Prelude.{Some, None}
use Rattle.std.specs.List.{All}
use Rattle.std.proofs.lemmas.Bool.{cases_lt}
use Rattle.std.proofs.lemmas.List.{get_or_past}
use Rattle.std.proofs.lemmas.Nat.{mul-le}
use Rattle.std.proofs.Math.Nat.{mod-eq_of_lt, mod-lt, one-le-pow, pow-succ'}
use Rattle.byteorder.specs.Endian.{big_from, big_number, little_from, little_number}
use Rattle.hilti_overlay.specs.declared.field.Form.{Form}
use Rattle.hilti_overlay.specs.declared.field.Form.TheVariants.{U8, U16Big, U32Big, U64Big, U16Little, U32Little, U64Little, Ipv4, Ipv6, PortTcp, PortUdp, Bytes}
use Rattle.hilti_overlay.specs.declared.field.Scalar.TheVariants as scalars
use Rattle.hilti_overlay.specs.Fields.{bits_in, value_of, width_of}

abbrev AreBytes : List ℕ → Type 0
AreBytes bytes = (k : ℕ) → get_or bytes k 0 < 256

bytes_below : (bytes : List ℕ) → All (λ byte. byte < 256) bytes → AreBytes bytes
bytes_below bytes all k = elim (cases_lt k (length bytes)) [
  | inl within ↦ all k 0 within
  | inr past ↦ let none : get_or bytes k 0 ≡ 0 = get_or_past bytes k 0 past in omega (arith, none)
]

big_below : (n i : ℕ) (bytes : List ℕ) → AreBytes bytes → big_from i n bytes < 256 ^ n
big_below zero i bytes all = omega arith
big_below (suc n) i bytes all =
    let rest = big_below n (suc i) bytes all in
    let byte : get_or bytes i 0 + 1 ≤ 256 = omega (arith, all i) in
    let room : (get_or bytes i 0 + 1) * 256 ^ n ≤ 256 * 256 ^ n
    = mul-le (get_or bytes i 0 + 1) (256 ^ n) 256 (256 ^ n) byte (omega arith) in
    omega (arith, rest, room, pow-succ' 256 n)

little_below : (n i : ℕ) (bytes : List ℕ) → AreBytes bytes → little_from i n bytes < 256 ^ n
little_below zero i bytes all = omega arith
little_below (suc n) i bytes all =
    let rest = little_below n (suc i) bytes all in
    omega (arith, rest, all i, pow-succ' 256 n)

pub range_is_small : (low high n : ℕ) → bits_in (Some (low, high)) n < 2 ^ (high - low + 1)
range_is_small low high n =
    let some : 0 < 2 ^ (high - low + 1) = omega (arith, one-le-pow (high - low + 1) 2 (omega arith)) in
    mod-lt (n / 2 ^ low) some

all_bits : (last n : ℕ) → n < 2 ^ (last - 0 + 1) → bits_in (Some (0, last)) n ≡ n
all_bits last n small =
    let whole : n / 2 ^ 0 ≡ n = omega arith in
    ap (λ m. m % 2 ^ (last - 0 + 1)) whole ∙ mod-eq_of_lt small

whole : (form : Form) (at : ℕ) (bytes : List ℕ) → AreBytes bytes
    → value_of form (Some (0, width_of form - 1)) at bytes ≡ value_of form None at bytes
whole U8 at bytes all =
    ap (λ n. scalars.Int n) (all_bits 7 (big_number 1 bytes) (omega (arith, big_below 1 0 bytes all)))
whole U16Big at bytes all =
    ap (λ n. scalars.Int n) (all_bits 15 (big_number 2 bytes) (omega (arith, big_below 2 0 bytes all)))
whole U32Big at bytes all =
    ap (λ n. scalars.Int n) (all_bits 31 (big_number 4 bytes) (omega (arith, big_below 4 0 bytes all)))
whole U64Big at bytes all =
    ap (λ n. scalars.Int n) (all_bits 63 (big_number 8 bytes) (omega (arith, big_below 8 0 bytes all)))
whole U16Little at bytes all =
    ap (λ n. scalars.Int n) (all_bits 15 (little_number 2 bytes) (omega (arith, little_below 2 0 bytes all)))
whole U32Little at bytes all =
    ap (λ n. scalars.Int n) (all_bits 31 (little_number 4 bytes) (omega (arith, little_below 4 0 bytes all)))
whole U64Little at bytes all =
    ap (λ n. scalars.Int n) (all_bits 63 (little_number 8 bytes) (omega (arith, little_below 8 0 bytes all)))
whole Ipv4 at bytes all = refl
whole Ipv6 at bytes all = refl
whole PortTcp at bytes all = refl
whole PortUdp at bytes all = refl
whole (Bytes n) at bytes all = refl

pub whole_range : (form : Form) (at : ℕ) (bytes : List ℕ) → All (λ byte. byte < 256) bytes
    → value_of form (Some (0, width_of form - 1)) at bytes ≡ value_of form None at bytes
whole_range form at bytes all = whole form at bytes (bytes_below bytes all)
