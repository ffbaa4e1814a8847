-- How numbers modulo 2 ^ bits and numbers in two's complement stand for each other.
use Rattle.std.proofs.Common.{◌≡◌, ℕ, suc, ◌+◌, ◌-◌, ◌*◌, ◌/◌, ◌%◌, ◌^◌, ◌<◌, ◌≤◌, refl, sym, ap, ◌∙◌, inl, inr, arith}
use Rattle.std.specs.Prelude.{◌⊎◌, ℤ, pos, negsuc, ◌+ℤ◌, ◌-ℤ◌, ◌*ℤ◌, neg_ℤ, ◌≤ℤ◌, ◌<ℤ◌, unsigned_abs, int_div, int_rem}
use Rattle.std.specs.Int.{int_shr}
use Rattle.std.proofs.lemmas.Int.{ints, int_rem_euclid_is}
use Rattle.std.proofs.lemmas.Bool.Decides.{nat_tests}
use Rattle.std.proofs.lemmas.Nat.{div-add-mod', pow-add, pow_pos, mod_below}
use Rattle.std.proofs.Math.Nat.{add-mul-mod_self_right, div-one, mod-eq_of_lt, mod-one}
use Rattle.hilti_int.proofs.Shifts.{shifted_right}
use Rattle.hilti_int.specs.Integers.{signed, wrapped}

-- a number is what wraps to it, a multiple of 2 ^ bits away
pub wrapped_below : (bits : ℕ) (z : ℤ) → wrapped bits z < 2 ^ bits
wrapped_below bits (pos n) = mod_below n (2 ^ bits) (pow_pos bits)
wrapped_below bits (negsuc n) = omega (arith, pow_pos bits)

pub wrapped_congruent : (bits : ℕ) (z : ℤ) → (k : ℤ) × (z ≡ pos (wrapped bits z) +ℤ (k *ℤ pos (2 ^ bits)))
wrapped_congruent bits (pos n) = (pos (n / 2 ^ bits), ap pos (omega (arith, div-add-mod' n (2 ^ bits))))
wrapped_congruent bits (negsuc n) = (negsuc (n / 2 ^ bits), omega (arith, ints, div-add-mod' n (2 ^ bits), mod_below n (2 ^ bits) (pow_pos bits), pow_pos bits))

-- what both halves mean
pub signed_cases : (bits a : ℕ) → ((2 * a < 2 ^ bits) × (signed bits a ≡ pos a)) ⊎ ((2 ^ bits ≤ 2 * a) × (signed bits a ≡ pos a -ℤ pos (2 ^ bits)))
signed_cases bits a = grind (arith, nat_tests)

-- z wraps to the remainder of a natural that is a multiple of 2 ^ bits away
pub wraps_to : (bits : ℕ) (z : ℤ) (k n : ℕ) → z +ℤ pos (k * 2 ^ bits) ≡ pos n → wrapped bits z ≡ n % 2 ^ bits
wraps_to bits z k n e = ap unsigned_abs (int_rem_euclid_is z (pos (2 ^ bits)) (2 ^ bits) k n (pow_pos bits) refl e)

pub unsigned_of_signed : (bits a : ℕ) → a < 2 ^ bits → wrapped bits (signed bits a) ≡ a
unsigned_of_signed bits a fits = elim (signed_cases bits a) [
  | inl h ↦ wraps_to bits (signed bits a) 0 a (omega (arith, ints, h.1)) ∙ mod-eq_of_lt fits
  | inr h ↦ wraps_to bits (signed bits a) 1 a (omega (arith, ints, h.1)) ∙ mod-eq_of_lt fits
]

-- 2 ^ bits is twice the half
pub doubled : (bits : ℕ) → 1 ≤ bits → 2 ^ bits ≡ 2 * 2 ^ (bits - 1)
doubled bits some = let split : bits ≡ 1 + (bits - 1) = omega arith in ap (λ n. 2 ^ n) split ∙ pow-add 2 1 (bits - 1)

pub signed_above : (bits a : ℕ) → 1 ≤ bits → a < 2 ^ bits → neg_ℤ (pos (2 ^ (bits - 1))) ≤ℤ signed bits a
signed_above bits a some fits = elim (signed_cases bits a) [
  | inl h ↦ omega (arith, ints, h.1)
  | inr h ↦ omega (arith, ints, h.0, h.1, doubled bits some)
]

pub signed_below : (bits a : ℕ) → 1 ≤ bits → a < 2 ^ bits → signed bits a <ℤ pos (2 ^ (bits - 1))
signed_below bits a some fits = elim (signed_cases bits a) [
  | inl h ↦ omega (arith, ints, h.0, h.1, doubled bits some)
  | inr h ↦ omega (arith, ints, h.1, fits, pow_pos (bits - 1))
]

wrapped_small : (bits n : ℕ) → n < 2 ^ bits → wrapped bits (negsuc n) ≡ 2 ^ bits - 1 - n
wrapped_small bits n small = ap (λ r. 2 ^ bits - 1 - r) (mod-eq_of_lt small)

pub signed_of_unsigned : (bits : ℕ) (z : ℤ) → 1 ≤ bits → neg_ℤ (pos (2 ^ (bits - 1))) ≤ℤ z → z <ℤ pos (2 ^ (bits - 1)) → signed bits (wrapped bits z) ≡ z
signed_of_unsigned bits (pos n) some above below =
    let small : n < 2 ^ (bits - 1) = omega (arith, ints) in
    let same : wrapped bits (pos n) ≡ n = mod-eq_of_lt (omega (arith, small, doubled bits some)) in
    elim (signed_cases bits n) [
      | inl h ↦ ap (signed bits) same ∙ h.1
      | inr h ↦ absurd (omega (arith, h.0, small, doubled bits some))
    ]
signed_of_unsigned bits (negsuc n) some above below =
    let small : n < 2 ^ (bits - 1) = omega (arith, ints, pow_pos (bits - 1)) in
    let same : wrapped bits (negsuc n) ≡ 2 ^ bits - 1 - n = wrapped_small bits n (omega (arith, small, doubled bits some)) in
    elim (signed_cases bits (2 ^ bits - 1 - n)) [
      | inl h ↦ absurd (omega (arith, h.0, small, doubled bits some))
      | inr h ↦ ap (signed bits) same ∙ h.1 ∙ omega (arith, ints, small, doubled bits some)
    ]

-- addition, subtraction and multiplication give the same bits in both readings
pub same_sum : (bits a b : ℕ) → wrapped bits (signed bits a +ℤ signed bits b) ≡ (a + b) % 2 ^ bits
same_sum bits a b = elim (signed_cases bits a) [
  | inl h ↦ elim (signed_cases bits b) [
    | inl k ↦ wraps_to bits (signed bits a +ℤ signed bits b) 0 (a + b) (omega (arith, ints, h.1, k.1))
    | inr k ↦ wraps_to bits (signed bits a +ℤ signed bits b) 1 (a + b) (omega (arith, ints, h.1, k.1))
  ]
  | inr h ↦ elim (signed_cases bits b) [
    | inl k ↦ wraps_to bits (signed bits a +ℤ signed bits b) 1 (a + b) (omega (arith, ints, h.1, k.1))
    | inr k ↦ wraps_to bits (signed bits a +ℤ signed bits b) 2 (a + b) (omega (arith, ints, h.1, k.1))
  ]
]

pub unsigned_difference : (bits a b : ℕ) → b < 2 ^ bits → wrapped bits (pos a -ℤ pos b) ≡ (a + (2 ^ bits - b)) % 2 ^ bits
unsigned_difference bits a b fits = wraps_to bits (pos a -ℤ pos b) 1 (a + (2 ^ bits - b)) (omega (arith, ints))

pub same_difference : (bits a b : ℕ) → b < 2 ^ bits → wrapped bits (signed bits a -ℤ signed bits b) ≡ wrapped bits (pos a -ℤ pos b)
same_difference bits a b fits = elim (signed_cases bits a) [
  | inl h ↦ elim (signed_cases bits b) [
    | inl k ↦ wraps_to bits (signed bits a -ℤ signed bits b) 1 (a + (2 ^ bits - b)) (omega (arith, ints, h.1, k.1)) ∙ sym (unsigned_difference bits a b fits)
    | inr k ↦ wraps_to bits (signed bits a -ℤ signed bits b) 0 (a + (2 ^ bits - b)) (omega (arith, ints, h.1, k.1)) ∙ sym (unsigned_difference bits a b fits)
  ]
  | inr h ↦ elim (signed_cases bits b) [
    | inl k ↦ wraps_to bits (signed bits a -ℤ signed bits b) 2 (a + (2 ^ bits - b)) (omega (arith, ints, h.1, k.1)) ∙ sym (unsigned_difference bits a b fits)
    | inr k ↦ wraps_to bits (signed bits a -ℤ signed bits b) 1 (a + (2 ^ bits - b)) (omega (arith, ints, h.1, k.1)) ∙ sym (unsigned_difference bits a b fits)
  ]
]

-- a number of the upper half, as the negative number that it means
pub upper_is : (bits a p : ℕ) → a + suc p ≡ 2 ^ bits → pos a -ℤ pos (2 ^ bits) ≡ negsuc p
upper_is bits a p e = omega (arith, ints, e)

-- (m - p) (m - q) is p q less a multiple of m
both_upper : (m a b p q : ℕ) → a + p ≡ m → b + q ≡ m → p * q + (a + b) * m ≡ a * b + m * m
both_upper m a b p q e f =
    let mixed : p * (b + q) ≡ p * (a + p) = ap (λ n. p * n) (f ∙ sym e) in
    ap (λ n. p * q + (a + b) * n) (sym e) ∙ omega (arith, mixed) ∙ ap (λ n. a * b + n * n) e

one_upper : (m a b p : ℕ) → a + p ≡ m → p * b + a * b ≡ m * b
one_upper m a b p e = omega arith ∙ ap (λ n. n * b) e

pub same_product : (bits a b : ℕ) → a < 2 ^ bits → b < 2 ^ bits → wrapped bits (signed bits a *ℤ signed bits b) ≡ (a * b) % 2 ^ bits
same_product bits a b a_fits b_fits =
    let m : ℕ = 2 ^ bits in
    let p : ℕ = m - a - 1 in
    let q : ℕ = m - b - 1 in
    let at_a : a + suc p ≡ m = omega arith in
    let at_b : b + suc q ≡ m = omega arith in
    elim (signed_cases bits a) [
      | inl h ↦ elim (signed_cases bits b) [
        | inl k ↦ ap (λ z. wrapped bits (z *ℤ signed bits b)) h.1 ∙ ap (λ z. wrapped bits (pos a *ℤ z)) k.1
        | inr k ↦ ap (λ z. wrapped bits (z *ℤ signed bits b)) h.1 ∙ ap (λ z. wrapped bits (pos a *ℤ z)) (k.1 ∙ upper_is bits b q at_b)
            ∙ wraps_to bits (pos a *ℤ negsuc q) a (a * b) (omega (arith, ints, one_upper m b a (suc q) at_b))
      ]
      | inr h ↦ elim (signed_cases bits b) [
        | inl k ↦ ap (λ z. wrapped bits (z *ℤ signed bits b)) (h.1 ∙ upper_is bits a p at_a) ∙ ap (λ z. wrapped bits (negsuc p *ℤ z)) k.1
            ∙ wraps_to bits (negsuc p *ℤ pos b) b (a * b) (omega (arith, ints, one_upper m a b (suc p) at_a))
        | inr k ↦ ap (λ z. wrapped bits (z *ℤ signed bits b)) (h.1 ∙ upper_is bits a p at_a) ∙ ap (λ z. wrapped bits (negsuc p *ℤ z)) (k.1 ∙ upper_is bits b q at_b)
            ∙ wraps_to bits (negsuc p *ℤ negsuc q) (a + b) (a * b + m * m) (ap pos (both_upper m a b (suc p) (suc q) at_a at_b)) ∙ add-mul-mod_self_right (a * b) m m
      ]
    ]

-- what is left where a shift moves every bit out
pub all_sign : (bits a by : ℕ) → a < 2 ^ bits → bits ≤ by → 2 ^ bits ≤ 2 * a → wrapped bits (int_shr (signed bits a) by) ≡ 2 ^ bits - 1
all_sign bits a by fits far upper =
    let p : ℕ = 2 ^ bits - a - 1 in
    let at_a : a + suc p ≡ 2 ^ bits = omega arith in
    let meant : signed bits a ≡ negsuc p = elim (signed_cases bits a) [
      | inl h ↦ absurd (omega (arith, h.0))
      | inr h ↦ h.1 ∙ upper_is bits a p at_a
    ] in
    ap (λ z. wrapped bits (int_shr z by)) meant ∙ ap (λ n. wrapped bits (negsuc n)) (shifted_right bits p by (omega (arith, at_a)) far) ∙ wrapped_small bits 0 (pow_pos bits) ∙ omega arith

pub no_sign : (bits a by : ℕ) → a < 2 ^ bits → bits ≤ by → 2 * a < 2 ^ bits → wrapped bits (int_shr (signed bits a) by) ≡ 0
no_sign bits a by fits far lower =
    let meant : signed bits a ≡ pos a = elim (signed_cases bits a) [
      | inl h ↦ h.1
      | inr h ↦ absurd (omega (arith, h.0))
    ] in
    ap (λ z. wrapped bits (int_shr z by)) meant ∙ ap (λ n. n % 2 ^ bits) (shifted_right bits a by fits far) ∙ mod-eq_of_lt (pow_pos bits)

-- the least number, and -1
pub least_is : (bits : ℕ) → 1 ≤ bits → signed bits (2 ^ (bits - 1)) ≡ negsuc (2 ^ (bits - 1) - 1)
least_is bits some = elim (signed_cases bits (2 ^ (bits - 1))) [
  | inl h ↦ absurd (omega (arith, h.0, doubled bits some))
  | inr h ↦ h.1 ∙ upper_is bits (2 ^ (bits - 1)) (2 ^ (bits - 1) - 1) (omega (arith, doubled bits some, pow_pos (bits - 1)))
]

pub minus_one_is : (bits : ℕ) → 1 ≤ bits → signed bits (2 ^ bits - 1) ≡ negsuc 0
minus_one_is bits some = elim (signed_cases bits (2 ^ bits - 1)) [
  | inl h ↦ absurd (omega (arith, h.0, doubled bits some, pow_pos (bits - 1)))
  | inr h ↦ h.1 ∙ upper_is bits (2 ^ bits - 1) 0 (omega (arith, pow_pos bits))
]

pub least_by_minus_one : (bits : ℕ) → 1 ≤ bits → wrapped bits (int_div (signed bits (2 ^ (bits - 1))) (signed bits (2 ^ bits - 1))) ≡ 2 ^ (bits - 1)
least_by_minus_one bits some =
    let half : ℕ = 2 ^ (bits - 1) in
    let whole : suc (half - 1) ≡ half = omega (arith, pow_pos (bits - 1)) in
    ap (λ z. wrapped bits (int_div z (signed bits (2 ^ bits - 1)))) (least_is bits some) ∙ ap (λ z. wrapped bits (int_div (negsuc (half - 1)) z)) (minus_one_is bits some)
    ∙ ap (λ n. n / 1 % 2 ^ bits) whole ∙ ap (λ n. n % 2 ^ bits) (div-one half) ∙ mod-eq_of_lt (omega (arith, doubled bits some, pow_pos (bits - 1)))

pub no_remainder : (bits : ℕ) → 1 ≤ bits → wrapped bits (int_rem (signed bits (2 ^ (bits - 1))) (signed bits (2 ^ bits - 1))) ≡ 0
no_remainder bits some =
    let half : ℕ = 2 ^ (bits - 1) in
    ap (λ z. wrapped bits (int_rem z (signed bits (2 ^ bits - 1)))) (least_is bits some) ∙ ap (λ z. wrapped bits (int_rem (negsuc (half - 1)) z)) (minus_one_is bits some)
    ∙ ap (λ n. wrapped bits (neg_ℤ (pos n))) (mod-one (suc (half - 1))) ∙ mod-eq_of_lt (pow_pos bits)
