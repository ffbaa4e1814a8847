-- The groups of an address are read back from their text.
use Rattle.std.proofs.Common.{◌≡◌, ℕ, zero, suc, ◌+◌, ◌-◌, ◌*◌, ◌/◌, ◌%◌, ◌^◌, ◌<◌, ◌≤◌, List, [], ◌∷◌, ◌++◌, length, get_or, take, drop, replicate, codes, map, refl, sym, ap, ◌∙◌, subst, arith, inl, inr, lt-ltb, le-ltb, le-leb, append-nil, append_assoc, take-add, take-append-drop, length-take-le, length-drop}
use Rattle.std.proofs.Math.Nat.{mod-eq_of_lt}
use Rattle.std.proofs.lemmas.Bool.{cases_lt, lt-leb}
use Rattle.std.proofs.lemmas.Bool.Decides.{nat_tests}
use Rattle.std.proofs.lemmas.Nat.{mod-pow-add}
use Rattle.std.proofs.NetLemmas.Texts.{AllSegments, AllSegments-take, AllSegments-drop, IsZeroRun-longest_zero_run}
use Rattle.std.specs.Char.{digit_char, digit_value}
use Rattle.std.specs.Net.Grammar.{IsGroup as IsHexGroup}
use Rattle.std.specs.Net.Text.{groups_text, hex, hex_groups_text, longest_zero_run}
use Rattle.hilti_addr.specs.Brackets.{AreGroups, AreJoined, IsBracketAddress, IsGroup, IsSpelled, filled, number_of, shortened, whole}
use Rattle.hilti_print.specs.Addresses.{groups_of}

digit_back : (d : ℕ) → d < 16 → digit_value (digit_char d) ≡ d
digit_back d h = grind (arith, nat_tests)

-- the digits are those of the group, and the ones that are left out are 0
hex_group : (n : ℕ) → n < 2 ^ 16 → IsHexGroup (hex n) n
unfolding hex
hex_group n fits =
    let a = digit_back (n / 0x1000) (omega arith) in
    let b = digit_back (n / 0x100 % 16) (omega arith) in
    let c = digit_back (n / 0x10 % 16) (omega arith) in
    let d = digit_back (n % 16) (omega arith) in
    elim (cases_lt n 0x1000) [
      | inr four ↦ rw (le-leb _ n four) (omega arith)
      | inl h₃ ↦ elim (cases_lt n 0x100) [
        | inr three ↦ rw (lt-leb _ n h₃, le-leb _ n three) (omega arith)
        | inl h₂ ↦ elim (cases_lt n 0x10) [
          | inr two ↦ rw (lt-leb _ n h₃, lt-leb _ n h₂, le-leb _ n two) (omega arith)
          | inl h₁ ↦ rw (lt-leb _ n h₃, lt-leb _ n h₂, lt-leb _ n h₁) (omega arith)
        ]
      ]
    ]

group_back : (n : ℕ) → n < 2 ^ 16 → IsGroup (hex n) n
group_back n fits =
    let is = hex_group n fits in
    record { digits = is.0.0; short = is.1; value = sym is.0.1 }

joined_back : (first : ℕ) (others : List ℕ) → AllSegments (first ∷ others)
    → AreJoined (groups_text (first ∷ others)) first others
joined_back first [] fits = subst (λ t. IsGroup t first) (sym (append-nil (hex first))) (group_back first (fits 0))
joined_back first (next ∷ others) fits =
    (hex first, groups_text (next ∷ others), refl, group_back first (fits 0), joined_back next others (λ k. fits (suc k)))

groups_back : (groups : List ℕ) → AllSegments groups → AreGroups (groups_text groups) groups
groups_back [] fits = refl
groups_back (first ∷ others) fits = joined_back first others fits

two_colons : (front back : List ℕ) → front ++ codes "::" ++ back ≡ front ++ 58 ∷ 58 ∷ back
two_colons front back = append_assoc front (codes "::") back

-- with the zeros in their place these are all groups
refilled : (groups : List ℕ) (start count : ℕ) → take count (drop start groups) ≡ replicate count 0
    → 8 - (length (take start groups) + length (drop (start + count) groups)) ≡ count
    → groups ≡ filled (take start groups) (drop (start + count) groups)
refilled groups start count zeros gap =
    let front : List ℕ = take start groups in
    let back : List ℕ = drop (start + count) groups in
    sym
    (ap (λ k. front ++ (replicate k 0 ++ back)) gap
    ∙ ap (λ zs. front ++ (zs ++ back)) (sym zeros)
    ∙ sym (append_assoc front (take count (drop start groups)) back)
    ∙ ap (λ t. t ++ back) (sym (take-add start count groups))
    ∙ take-append-drop (start + count) groups)

pub spelled : (groups : List ℕ) → length groups ≡ 8 → AllSegments groups → IsSpelled (hex_groups_text groups) (number_of groups)
unfolding hex_groups_text
spelled groups eight fits =
    let start = (longest_zero_run groups).0 in
    let count = (longest_zero_run groups).1 in
    let (within, zeros) = IsZeroRun-longest_zero_run groups in
    let front = length-take-le start groups (omega arith) in
    let back = length-drop (start + count) groups in
    let gap : 8 - (length (take start groups) + length (drop (start + count) groups)) ≡ count = omega arith in
    elim (cases_lt 1 count) [
      | inl long ↦ rw (lt-ltb 1 count long)
          (shortened (groups_text (take start groups)) (groups_text (drop (start + count) groups))
          (take start groups) (drop (start + count) groups)
          (two_colons (groups_text (take start groups)) (groups_text (drop (start + count) groups)))
          (groups_back _ (AllSegments-take start groups fits))
          (groups_back _ (AllSegments-drop (start + count) groups fits))
          (omega arith)
          (ap number_of (refilled groups start count zeros gap)))
      | inr short ↦ rw (le-ltb 1 count short) (whole groups (groups_back groups fits) eight refl)
    ]

-- the number of the groups of an address
number_of_parts : (a g h i j k l m n p q r s t u v : ℕ) → a ≡ g * 2 ^ 112 + h → h ≡ i * 2 ^ 96 + j → j ≡ k * 2 ^ 80 + l
    → l ≡ m * 2 ^ 64 + n → n ≡ p * 2 ^ 48 + q → q ≡ r * 2 ^ 32 + s → s ≡ t * 2 ^ 16 + u → u ≡ v
    → number_of (g ∷ i ∷ k ∷ m ∷ p ∷ r ∷ t ∷ v ∷ []) ≡ a
number_of_parts a g h i j k l m n p q r s t u v one two three four five six seven eight =
    let sum : number_of (g ∷ i ∷ k ∷ m ∷ p ∷ r ∷ t ∷ v ∷ [])
    ≡ g * 2 ^ 112 + (i * 2 ^ 96 + (k * 2 ^ 80 + (m * 2 ^ 64 + (p * 2 ^ 48 + (r * 2 ^ 32 + (t * 2 ^ 16 + (v * 1 + 0)))))))
    = refl in
    omega (arith, sum, one, two, three, four, five, six, seven, eight)

number_back : (a : ℕ) → a < 2 ^ 128 → number_of (groups_of a) ≡ a
number_back a fits =
    let all : a % 2 ^ 128 ≡ a = mod-eq_of_lt fits in
    let last : a % 2 ^ 16 ≡ a / 2 ^ 0 % 2 ^ 16 = omega arith in
    number_of_parts a _ _ _ _ _ _ _ _ _ _ _ _ _ _ _ (sym all ∙ mod-pow-add a 16 112) (mod-pow-add a 16 96)
    (mod-pow-add a 16 80) (mod-pow-add a 16 64) (mod-pow-add a 16 48) (mod-pow-add a 16 32) (mod-pow-add a 16 16) last

small_groups : (a : ℕ) (bits : List ℕ) → AllSegments (map (λ bit. a / 2 ^ bit % 2 ^ 16) bits)
small_groups a [] k = omega arith
small_groups a (bit ∷ bits) zero = omega arith
small_groups a (bit ∷ bits) (suc k) = small_groups a bits k

-- an address of no IPv4 form, between brackets
pub bracket_back : (a : ℕ) → a < 2 ^ 128 → IsBracketAddress (91 ∷ (hex_groups_text (groups_of a) ++ 93 ∷ [])) a
bracket_back a fits = record {
  inside = hex_groups_text (groups_of a);
  parts = refl;
  spelled =
      subst (IsSpelled (hex_groups_text (groups_of a))) (number_back a fits) (spelled (groups_of a) refl (small_groups a (112 ∷ 96 ∷ 80 ∷ 64 ∷ 48 ∷ 32 ∷ 16 ∷ 0 ∷ [])));
}
