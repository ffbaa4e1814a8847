use Rattle.std.proofs.Common.{arith, refl}
use Rattle.hilti_clock.proofs.Decimals.{big_decimal, big_number, no_seconds, refused_by}
use Rattle.hilti_clock.proofs.numeral.read_decimal.Goals as goal

pub returns-in_err-read_number-clause-none : goal.returns-in_err-read_number-clause-none
returns-in_err-read_number-clause-none c = λ _ nanos _.
    no_seconds c.args.text.now (c.in_default.ensures.none refl) (c.in_err-read_number.ensures.none refl) nanos

pub returns-in_default-clause-none : goal.returns-in_default-clause-none
returns-in_default-clause-none c = λ none.
    big_number c.args.text.now c.in_ok-read_number.field-0 c.in_ok-read_number.ensures.some
    (λ fits. refused_by c.checked_mul.result _ c.checked_mul.ensures none (omega (arith, fits)))

pub returns-in_err-whole-clause-none : goal.returns-in_err-whole-clause-none
returns-in_err-whole-clause-none c = λ _.
    big_decimal c.args.text.now c.in-Some.seconds c.in-Some.nanos c.in-Some.ensures.some (λ fits. c.in_err-whole.ensures (omega (arith, fits)))

pub returns-clause-none : goal.returns-clause-none
returns-clause-none c = λ none.
    big_decimal c.args.text.now c.in-Some.seconds c.in-Some.nanos c.in-Some.ensures.some
    (λ fits. refused_by c.checked_add.result _ c.checked_add.ensures none (omega (arith, fits, c.in_ok-whole.ensures.1, c.from.ensures)))
