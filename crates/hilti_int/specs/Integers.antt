-- Whole numbers of 8, 16, 32 or 64 bits, each kept as a natural number below 2 to its bits.
use Rattle.std.specs.Prelude.{ℕ, ◌+◌, ◌-◌, ◌*◌, ◌/◌, ◌%◌, ◌^◌, ◌<◌, ◌≤◌, ◌==◌, ◌&&◌, nat_le, nat_lt}
use Rattle.std.specs.Prelude.{Bool, true, false, if◌then◌else◌, Result, Ok, Err}
use Rattle.std.specs.Prelude.{ℤ, pos, ◌-ℤ◌, ◌<ℤ◌, unsigned_abs, int_div, int_rem}
use Rattle.std.specs.Prelude.{bit_and, bit_or, bit_xor}
use Rattle.std.specs.Int.{int_rem_euclid, int_shr}
use Rattle.hilti_base.specs.declared.refusal.Raise.{Raise}
use Rattle.hilti_base.specs.declared.refusal.Raise.TheVariants as raises
use Rattle.hilti_int.specs.declared.width.Width.{Width}
use Rattle.hilti_int.specs.declared.width.Width.TheVariants.{W8, W16, W32, W64}
use Rattle.hilti_int.specs.declared.operations.IntOp.{IntOp}
use Rattle.hilti_int.specs.declared.operations.IntOp.TheVariants.{Add, Sub, Mul, Div, Mod}
use Rattle.hilti_int.specs.declared.operations.IntOp.TheVariants.{Sdiv, Smod, And, Or, Xor}
use Rattle.hilti_int.specs.declared.operations.IntOp.TheVariants.{Shl, Shr, Sshr}
use Rattle.hilti_int.specs.declared.operations.IntOp.TheVariants.{AddExact, SubExact, MulExact}
use Rattle.hilti_int.specs.declared.operations.IntOp.TheVariants.{ShlExact, SdivExact}
use Rattle.hilti_int.specs.declared.comparisons.IntCmp.{IntCmp}
use Rattle.hilti_int.specs.declared.comparisons.IntCmp.TheVariants.{Lt, Gt, Leq, Geq, Slt, Sgt}

-- the bits of a width
abbrev pub bits_of : Width → ℕ
bits_of W8 = 8
bits_of W16 = 16
bits_of W32 = 32
bits_of W64 = 64

-- two's complement: a number in the lower half means itself, and one in the upper half itself less
-- 2 ^ bits
abbrev pub signed : ℕ → ℕ → ℤ
signed bits a = if nat_lt (2 * a) (2 ^ bits) then pos a else pos a -ℤ pos (2 ^ bits)

-- what a whole number leaves modulo 2 ^ bits
abbrev pub wrapped : ℕ → ℤ → ℕ
wrapped bits z = unsigned_abs (int_rem_euclid z (pos (2 ^ bits)))

-- what an operation gives; of a division or remainder, where b isn't 0, and of an exact operation,
-- where its result fits
abbrev pub value_of : IntOp → ℕ → ℕ → ℕ → ℕ
value_of Add bits a b = (a + b) % 2 ^ bits
value_of Sub bits a b = wrapped bits (pos a -ℤ pos b)
value_of Mul bits a b = (a * b) % 2 ^ bits
value_of Div bits a b = a / b
value_of Mod bits a b = a % b
value_of Sdiv bits a b = wrapped bits (int_div (signed bits a) (signed bits b))
value_of Smod bits a b = wrapped bits (int_rem (signed bits a) (signed bits b))
value_of And bits a b = bit_and a b
value_of Or bits a b = bit_or a b
value_of Xor bits a b = bit_xor a b
value_of Shl bits a b = (a * 2 ^ b) % 2 ^ bits
value_of Shr bits a b = a / 2 ^ b
value_of Sshr bits a b = wrapped bits (int_shr (signed bits a) b)
value_of AddExact bits a b = a + b
value_of SubExact bits a b = a - b
value_of MulExact bits a b = a * b
value_of ShlExact bits a b = a * 2 ^ b
value_of SdivExact bits a b = wrapped bits (int_div (signed bits a) (signed bits b))

-- the operations that divide
abbrev pub divides : IntOp → Bool
divides Div = true
divides Mod = true
divides Sdiv = true
divides Smod = true
divides SdivExact = true
divides _ = false

-- whether the result of an exact operation isn't a number of these bits: a quotient in two's
-- complement isn't one at the least number by -1 alone
abbrev pub overflows : IntOp → ℕ → ℕ → ℕ → Bool
overflows AddExact bits a b = nat_le (2 ^ bits) (a + b)
overflows SubExact bits a b = nat_lt a b
overflows MulExact bits a b = nat_le (2 ^ bits) (a * b)
overflows ShlExact bits a b = nat_le (2 ^ bits) (a * 2 ^ b)
overflows SdivExact bits a b = (2 * a == 2 ^ bits) && (b + 1 == 2 ^ bits)
overflows _ bits a b = false

-- the operation that wraps where an exact one raises, and any other operation itself
abbrev pub wrapping : IntOp → IntOp
wrapping AddExact = Add
wrapping SubExact = Sub
wrapping MulExact = Mul
wrapping ShlExact = Shl
wrapping SdivExact = Sdiv
wrapping op = op

-- what an operation answers
abbrev pub outcome_of : IntOp → ℕ → ℕ → ℕ → Result ℕ Raise
outcome_of op bits a b =
    if divides op && (b == 0) then Err raises.DivisionByZero
    else if overflows op bits a b then Err raises.ValueError
    else Ok (value_of op bits a b)

-- a number, where it is one of these bits
abbrev pub exactly : ℕ → ℕ → Result ℕ Raise
exactly bits n = if nat_le (2 ^ bits) n then Err raises.ValueError else Ok n

-- when a comparison holds
abbrev pub Holds : IntCmp → ℕ → ℕ → ℕ → Type 0
Holds Lt bits a b = a < b
Holds Gt bits a b = b < a
Holds Leq bits a b = a ≤ b
Holds Geq bits a b = b ≤ a
Holds Slt bits a b = signed bits a <ℤ signed bits b
Holds Sgt bits a b = signed bits b <ℤ signed bits a
