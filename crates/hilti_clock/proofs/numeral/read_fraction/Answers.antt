use Rattle.std.proofs.Common.{arith}
use Rattle.hilti_clock.proofs.Fractions.{below_second, below_word}
use Rattle.hilti_clock.proofs.numeral.read_fraction.Goals as goal

pub returns-in_default-clause-none : goal.returns-in_default-clause-none
returns-in_default-clause-none c = λ _ nanos is.
    c.in_default.ensures (record { digits = is.digits; small = below_word c.args.text.now is.digits.1 is.short })

pub overflow_mul-nanos : goal.overflow_mul-nanos
overflow_mul-nanos c =
    omega (arith, below_second c.args.text.now c.in-Some.value c.pow.result c.in-Some.ensures.0.digits.1 (omega arith) c.in-Some.ensures.1 c.pow.ensures)

pub overflow_cast-result : goal.overflow_cast-result
overflow_cast-result c =
    omega (arith, below_second c.args.text.now c.in-Some.value c.pow.result c.in-Some.ensures.0.digits.1 (omega arith) c.in-Some.ensures.1 c.pow.ensures)
