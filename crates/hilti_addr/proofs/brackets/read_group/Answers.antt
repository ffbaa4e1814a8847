use Rattle.std.proofs.Common.{◌≤◌, length, arith}
use Rattle.hilti_addr.proofs.Groups.{digits_small}
use Rattle.hilti_addr.proofs.brackets.read_group.Goals as goal

pub returns-in_err-number-clause-none : goal.returns-in_err-number-clause-none
returns-in_err-number-clause-none c = λ _ n is.
    c.in_err-number.ensures (record { digits = is.digits; small = omega (arith, digits_small c.args.text.now is.digits.1 is.short) })

pub overflow_cast-result : goal.overflow_cast-result
overflow_cast-result c =
    let short : length c.args.text.now ≤ 4 = omega arith in
    omega (arith, digits_small c.args.text.now c.in_ok-number.ensures.0.digits.1 short, c.in_ok-number.ensures.1)
