-- What is computed of whole numbers of a width is one.
use Rattle.std.proofs.Common.{◌≡◌, ℕ, zero, suc, ◌+◌, ◌*◌, ◌/◌, ◌%◌, ◌^◌, ◌<◌, ◌≤◌, Bool, true}
use Rattle.std.proofs.Common.{false, ◌&&◌, refl, Ok, Err, IfOk, arith}
use Rattle.std.specs.Prelude.{nat_le, ◌==◌, pos, ◌-ℤ◌, int_div, int_rem, if◌then◌else◌}
use Rattle.std.specs.Int.{int_shr}
use Rattle.std.proofs.lemmas.Bool.Decides.{nat_tests}
use Rattle.std.proofs.lemmas.Nat.{or_lt, xor_lt, and_le_l, div-add-mod', mod_below, pow_pos}
use Rattle.hilti_base.specs.declared.refusal.Raise.{Raise}
use Rattle.hilti_base.specs.declared.refusal.Raise.TheVariants as raises
use Rattle.hilti_int.specs.declared.operations.IntOp.{IntOp}
use Rattle.hilti_int.specs.declared.operations.IntOp.TheVariants as ops
use Rattle.hilti_int.specs.Integers.{value_of, divides, overflows, outcome_of, exactly, signed}
use Rattle.hilti_int.proofs.Readings.{wrapped_below}

quotient_le : (q m n : ℕ) → 0 < m → q * m ≤ n → q ≤ n
quotient_le q zero n some h = absurd (omega (arith, some))
quotient_le q (suc m) n some h = omega (arith, h)

div_le : (n m : ℕ) → 0 < m → n / m ≤ n
div_le n m some = let e = div-add-mod' n m in quotient_le (n / m) m n some (omega (arith, e))

mod_le : (n m : ℕ) → n % m ≤ n
mod_le n m = let e = div-add-mod' n m in omega (arith, e)

no_zero : (b : ℕ) → (true && (b == 0)) ≡ false → 0 < b
no_zero b h = grind (arith, nat_tests, h)

-- where it doesn't raise
fits : (op : IntOp) (bits a b : ℕ) → a < 2 ^ bits → b < 2 ^ bits → (divides op && (b == 0)) ≡ false
    → overflows op bits a b ≡ false → value_of op bits a b < 2 ^ bits
fits ops.Add bits a b f g z o = mod_below (a + b) (2 ^ bits) (pow_pos bits)
fits ops.Sub bits a b f g z o = wrapped_below bits (pos a -ℤ pos b)
fits ops.Mul bits a b f g z o = mod_below (a * b) (2 ^ bits) (pow_pos bits)
fits ops.Div bits a b f g z o = let e = div_le a b (no_zero b z) in omega (arith, e, f)
fits ops.Mod bits a b f g z o = let e = mod_le a b in omega (arith, e, f)
fits ops.Sdiv bits a b f g z o = wrapped_below bits (int_div (signed bits a) (signed bits b))
fits ops.Smod bits a b f g z o = wrapped_below bits (int_rem (signed bits a) (signed bits b))
fits ops.And bits a b f g z o = let e = and_le_l a b in omega (arith, e, f)
fits ops.Or bits a b f g z o = or_lt bits a b f g
fits ops.Xor bits a b f g z o = xor_lt bits a b f g
fits ops.Shl bits a b f g z o = mod_below (a * 2 ^ b) (2 ^ bits) (pow_pos bits)
fits ops.Shr bits a b f g z o = let e = div_le a (2 ^ b) (pow_pos b) in omega (arith, e, f)
fits ops.Sshr bits a b f g z o = wrapped_below bits (int_shr (signed bits a) b)
fits ops.AddExact bits a b f g z o = grind (arith, nat_tests, o)
fits ops.SubExact bits a b f g z o = omega (arith, f)
fits ops.MulExact bits a b f g z o = grind (arith, nat_tests, o)
fits ops.ShlExact bits a b f g z o = grind (arith, nat_tests, o)
fits ops.SdivExact bits a b f g z o = wrapped_below bits (int_div (signed bits a) (signed bits b))

by_tests : (x y : Bool) (v m : ℕ) (e f : Raise) → (x ≡ false → y ≡ false → v < m)
    → IfOk (if x then Err e else if y then Err f else Ok v) (λ n. n < m)
by_tests true y v m e f h = tt
by_tests false true v m e f h = tt
by_tests false false v m e f h = h refl refl

pub outcome_fits : (op : IntOp) (bits a b : ℕ) → a < 2 ^ bits → b < 2 ^ bits
    → IfOk (outcome_of op bits a b) (λ n. n < 2 ^ bits)
outcome_fits op bits a b f g = by_tests (divides op && (b == 0)) (overflows op bits a b) (value_of op bits a b) (2 ^
    bits) raises.DivisionByZero raises.ValueError (fits op bits a b f g)

by_test : (x : Bool) (v m : ℕ) (e : Raise) → (x ≡ false → v < m) → IfOk (if x then Err e else Ok v) (λ n. n < m)
by_test true v m e h = tt
by_test false v m e h = h refl

pub exactly_fits : (bits n : ℕ) → IfOk (exactly bits n) (λ n. n < 2 ^ bits)
exactly_fits bits n = by_test (nat_le (2 ^ bits) n) n (2 ^ bits) raises.ValueError (λ h. grind (arith, nat_tests, h))

pub wrapped_fits : (bits n : ℕ) → n % 2 ^ bits < 2 ^ bits
wrapped_fits bits n = mod_below n (2 ^ bits) (pow_pos bits)
