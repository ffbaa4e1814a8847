use Rattle.std.proofs.Common.{refl}
use Rattle.hilti_clock.proofs.Decimals.{decimal_parts, no_point}
use Rattle.hilti_clock.proofs.numeral.split_decimal.Goals as goal

pub returns-in_err-front-clause-none : goal.returns-in_err-front-clause-none
returns-in_err-front-clause-none c = λ _. no_point c.args.text.now (c.in_err-front.ensures.none refl)

pub returns-in_err-seconds-clause-none : goal.returns-in_err-seconds-clause-none
returns-in_err-seconds-clause-none c = λ _ seconds nanos is.
    let parts = decimal_parts c.args.text.now c.in_ok-front.front.now c.in_ok-front.fraction.now seconds nanos c.in_ok-front.ensures.some is in
    c.in_err-seconds.ensures.none refl seconds parts.0

pub returns-in_err-nanos-clause-none : goal.returns-in_err-nanos-clause-none
returns-in_err-nanos-clause-none c = λ _ seconds nanos is.
    let parts = decimal_parts c.args.text.now c.in_ok-front.front.now c.in_ok-front.fraction.now seconds nanos c.in_ok-front.ensures.some is in
    c.in_err-nanos.ensures.none refl nanos parts.1
