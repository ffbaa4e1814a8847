-- Exact operations, beside those that wrap.
use Rattle.std.proofs.Common.{◌≡◌, ◌≢◌, ℕ, suc, ◌+◌, ◌-◌, ◌*◌, ◌/◌, ◌%◌, ◌^◌, ◌<◌, ◌≤◌}
use Rattle.std.proofs.Common.{refl, ap, ◌∙◌, inl, inr, zero, arith}
use Rattle.std.specs.Prelude.{ℤ, pos, negsuc, ◌-ℤ◌, neg_ℤ, ◌≤ℤ◌, ◌<ℤ◌, int_div, Ok}
use Rattle.std.specs.Prelude.{IsTrue, IsFalse}
use Rattle.std.proofs.lemmas.Int.{ints}
use Rattle.std.proofs.lemmas.Bool.Decides.{nat_tests}
use Rattle.std.proofs.lemmas.Nat.{pow_pos}
use Rattle.std.proofs.Math.Nat.{div-le_self, div-mul-le_self, div-one, mod-eq_of_lt}
use Rattle.hilti_int.specs.declared.operations.IntOp.{IntOp}
use Rattle.hilti_int.specs.declared.operations.IntOp.TheVariants as ops
use Rattle.hilti_int.specs.Integers.{signed, wrapped, value_of, overflows, outcome_of, wrapping, exactly}
use Rattle.hilti_int.proofs.Readings.{doubled, least_is, minus_one_is, signed_above, signed_below}
use Rattle.hilti_int.proofs.Readings.{signed_cases, signed_of_unsigned, wraps_to}

-- a number that fits is what is left of it modulo 2 ^ bits
exact_wraps : (bits m n : ℕ) → exactly bits m ≡ Ok n → m % 2 ^ bits ≡ n
exact_wraps bits m n given =
    let small : m < 2 ^ bits = grind (arith, nat_tests, given) in
    let same : m ≡ n = grind (arith, nat_tests, given) in
    mod-eq_of_lt small ∙ same

-- a difference that isn't negative
difference_wraps : (bits a b n : ℕ) → a < 2 ^ bits → outcome_of ops.SubExact bits a b ≡ Ok n
    → wrapped bits (pos a -ℤ pos b) ≡ n
difference_wraps bits a b n fits given =
    let above : b ≤ a = grind (arith, nat_tests, given) in
    let same : a - b ≡ n = grind (arith, nat_tests, given) in
    wraps_to bits (pos a -ℤ pos b) 0 (a - b) (omega (arith, ints, above))
    ∙ mod-eq_of_lt (omega (arith, fits))
    ∙ same

pub exact_as_wrapping : (op : IntOp) (bits a b n : ℕ) → a < 2 ^ bits → b < 2 ^ bits
    → outcome_of op bits a b ≡ Ok n → outcome_of (wrapping op) bits a b ≡ Ok n
exact_as_wrapping ops.AddExact bits a b n a_fits b_fits given =
    ap Ok (exact_wraps bits (a + b) n given)
exact_as_wrapping ops.SubExact bits a b n a_fits b_fits given =
    ap Ok (difference_wraps bits a b n a_fits given)
exact_as_wrapping ops.MulExact bits a b n a_fits b_fits given =
    ap Ok (exact_wraps bits (a * b) n given)
exact_as_wrapping ops.ShlExact bits a b n a_fits b_fits given =
    ap Ok (exact_wraps bits (a * 2 ^ b) n given)
exact_as_wrapping ops.SdivExact bits a b n a_fits b_fits given = grind (arith, nat_tests, given)
exact_as_wrapping ops.Add bits a b n a_fits b_fits given = given
exact_as_wrapping ops.Sub bits a b n a_fits b_fits given = given
exact_as_wrapping ops.Mul bits a b n a_fits b_fits given = given
exact_as_wrapping ops.Div bits a b n a_fits b_fits given = given
exact_as_wrapping ops.Mod bits a b n a_fits b_fits given = given
exact_as_wrapping ops.Sdiv bits a b n a_fits b_fits given = given
exact_as_wrapping ops.Smod bits a b n a_fits b_fits given = given
exact_as_wrapping ops.And bits a b n a_fits b_fits given = given
exact_as_wrapping ops.Or bits a b n a_fits b_fits given = given
exact_as_wrapping ops.Xor bits a b n a_fits b_fits given = given
exact_as_wrapping ops.Shl bits a b n a_fits b_fits given = given
exact_as_wrapping ops.Shr bits a b n a_fits b_fits given = given
exact_as_wrapping ops.Sshr bits a b n a_fits b_fits given = given

-- differences over all whole numbers
pub difference_is : (bits a b : ℕ) → IsFalse (overflows ops.SubExact bits a b)
    → pos (value_of ops.SubExact bits a b) ≡ pos a -ℤ pos b
difference_is bits a b fits =
    let above : b ≤ a = grind (arith, nat_tests, fits) in
    omega (arith, ints, above)

pub negative_is : (bits a b : ℕ) → IsTrue (overflows ops.SubExact bits a b)
    → (pos a -ℤ pos b) <ℤ pos 0
negative_is bits a b over =
    let below : a < b = grind (arith, nat_tests, over) in
    omega (arith, ints, below)

-- a quotient by 2 or more is less than half
halved : (half n k j : ℕ) → n ≤ half → k ≡ 2 + j → 1 ≤ half → n / k < half
halved half n k j within more some =
    let split : n / k * k ≡ n / k * (2 + j) = ap (λ m. n / k * m) more in
    omega (arith, split, div-mul-le_self n k)

-- a quotient of numbers from -half to half - 1 is one too, but that of the least by -1
quotient_within : (half : ℕ) → 1 ≤ half → (x y : ℤ) → neg_ℤ (pos half) ≤ℤ x → x <ℤ pos half
    → (x ≡ neg_ℤ (pos half) → y ≡ negsuc 0 → ⊥)
    → (neg_ℤ (pos half) ≤ℤ int_div x y) × (int_div x y <ℤ pos half)
quotient_within half some (pos n) (pos m) above below other =
    (omega (arith, ints, div-le_self n m), omega (arith, ints, div-le_self n m))
quotient_within half some (pos n) (negsuc m) above below other =
    (omega (arith, ints, div-le_self n (suc m)), omega (arith, ints, div-le_self n (suc m)))
quotient_within half some (negsuc n) (pos m) above below other =
    let within : suc n ≤ half = omega (arith, ints, above) in
    let smaller = div-le_self (suc n) m in
    (omega (arith, ints, within, smaller), omega (arith, ints, within, smaller))
quotient_within half some (negsuc n) (negsuc zero) above below other =
    let within : suc n ≤ half = omega (arith, ints, above) in
    let not_least : suc n ≢ half = λ same. other (omega (arith, ints, same)) refl in
    (omega (arith, ints), omega (arith, ints, within, not_least, div-le_self (suc n) 1))
quotient_within half some (negsuc n) (negsuc (suc m)) above below other =
    let within : suc n ≤ half = omega (arith, ints, above) in
    let more : suc (suc m) ≡ 2 + m = omega arith in
    (omega (arith, ints), omega (arith, ints, halved half (suc n) (suc (suc m)) m within more some))

-- the least number and -1, by what they mean
least_alone : (bits a : ℕ) → 1 ≤ bits → signed bits a ≡ neg_ℤ (pos (2 ^ (bits - 1)))
    → 2 * a ≡ 2 ^ bits
least_alone bits a some means = elim (signed_cases bits a) [
  | inl h ↦ absurd (omega (arith, ints, h.1, means, pow_pos (bits - 1)))
  | inr h ↦ omega (arith, ints, h.1, means, doubled bits some)
]

minus_one_alone : (bits b : ℕ) → signed bits b ≡ negsuc 0 → b + 1 ≡ 2 ^ bits
minus_one_alone bits b means = elim (signed_cases bits b) [
  | inl h ↦ absurd (omega (arith, ints, h.1, means))
  | inr h ↦ omega (arith, ints, h.1, means)
]

pub quotient_is : (bits a b : ℕ) → 1 ≤ bits → a < 2 ^ bits
    → IsFalse (overflows ops.SdivExact bits a b)
    → signed bits (value_of ops.SdivExact bits a b) ≡ int_div (signed bits a) (signed bits b)
quotient_is bits a b some a_fits fits =
    let other : signed bits a ≡ neg_ℤ (pos (2 ^ (bits - 1))) → signed bits b ≡ negsuc 0 → ⊥ =
    λ least minus_one.
    let is_least : 2 * a ≡ 2 ^ bits = least_alone bits a some least in
    let is_minus_one : b + 1 ≡ 2 ^ bits = minus_one_alone bits b minus_one in
    grind (arith, nat_tests, fits, is_least, is_minus_one) in
    let within = quotient_within (2 ^ (bits - 1)) (pow_pos (bits - 1)) (signed bits a) (signed bits b)
    (signed_above bits a some a_fits) (signed_below bits a some a_fits) other in
    signed_of_unsigned bits (int_div (signed bits a) (signed bits b)) some within.0 within.1

pub too_great : (bits a b : ℕ) → 1 ≤ bits → IsTrue (overflows ops.SdivExact bits a b)
    → int_div (signed bits a) (signed bits b) ≡ pos (2 ^ (bits - 1))
too_great bits a b some over =
    let half : ℕ = 2 ^ (bits - 1) in
    let twice : 2 * a ≡ 2 ^ bits = grind (arith, nat_tests, over) in
    let last : b + 1 ≡ 2 ^ bits = grind (arith, nat_tests, over) in
    let least : a ≡ half = omega (arith, twice, doubled bits some) in
    let minus_one : b ≡ 2 ^ bits - 1 = omega (arith, last) in
    let whole : suc (half - 1) ≡ half = omega (arith, pow_pos (bits - 1)) in
    ap (λ a. int_div (signed bits a) (signed bits b)) least
    ∙ ap (λ b. int_div (signed bits half) (signed bits b)) minus_one
    ∙ ap (λ z. int_div z (signed bits (2 ^ bits - 1))) (least_is bits some)
    ∙ ap (λ z. int_div (negsuc (half - 1)) z) (minus_one_is bits some)
    ∙ ap (λ n. pos (n / 1)) whole
    ∙ ap pos (div-one half)
