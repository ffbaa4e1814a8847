-- What a shift leaves where it moves every bit out.
use Rattle.std.proofs.Common.{◌≡◌, ℕ, ◌+◌, ◌-◌, ◌*◌, ◌/◌, ◌%◌, ◌^◌, ◌<◌, ◌≤◌, ap, ◌∙◌, arith}
use Rattle.std.proofs.Math.Nat.{div-eq_of_lt, le-mul_of_pos_right, mul-mod_left, pow-le-pow_right}
use Rattle.std.proofs.lemmas.Nat.{pow-add}
use Rattle.hilti_int.specs.declared.width.Width.{Width}
use Rattle.hilti_int.specs.declared.width.Width.TheVariants.{W8, W16, W32, W64}
use Rattle.hilti_int.specs.Integers.{bits_of}

pub bits_le : (width : Width) → bits_of width ≤ 64
bits_le W8 = omega arith
bits_le W16 = omega arith
bits_le W32 = omega arith
bits_le W64 = omega arith

pub shifted_right : (bits a by : ℕ) → a < 2 ^ bits → bits ≤ by → a / 2 ^ by ≡ 0
shifted_right bits a by fits far = div-eq_of_lt (omega (arith, fits, pow-le-pow_right {n = 2} (omega arith) far))

pub shifted_left : (bits a by : ℕ) → bits ≤ by → (a * 2 ^ by) % 2 ^ bits ≡ 0
shifted_left bits a by far =
    let split : by ≡ (by - bits) + bits = omega arith in
    let parts : a * 2 ^ by ≡ a * 2 ^ (by - bits) * 2 ^ bits = ap (λ n. a * 2 ^ n) split ∙ ap (λ n. a * n) (pow-add 2 (by - bits) bits) ∙ omega arith in
    ap (λ n. n % 2 ^ bits) parts ∙ mul-mod_left (a * 2 ^ (by - bits)) (2 ^ bits)

-- a number that is shifted to the left by the bits or more
pub outgrown : (bits a by : ℕ) → bits ≤ by → 1 ≤ a → 2 ^ bits ≤ a * 2 ^ by
outgrown bits a by far some =
    let more : 2 ^ by ≤ 2 ^ by * a = le-mul_of_pos_right (2 ^ by) some in
    let most : 2 ^ bits ≤ 2 ^ by = pow-le-pow_right {n = 2} (omega arith) far in
    omega (arith, more, most)
