use Rattle.std.proofs.Common.{arith}
use Rattle.hilti_lexer.proofs.Digits.{hex_fits}
use Rattle.hilti_lexer.proofs.Numerals.{hex_digits}
use Rattle.hilti_lexer.proofs.numeral.read_hex.Goals as goal

pub returns-in_err-number-clause-none : goal.returns-in_err-number-clause-none
returns-in_err-number-clause-none c = λ _ n is.
    let digits = hex_digits c.args.text.now c.in_ok-digits.digits.now n c.in_ok-digits.ensures.cases.1 is in
    c.in_err-number.ensures (record { digits = digits; small = hex_fits c.in_ok-digits.digits.now digits.1 (omega arith) })
