use Rattle.hilti_base.proofs.Digits.{digits_are_text}
use Rattle.hilti_base.proofs.numeral.read_digits.Goals as goal

pub returns-in_default : goal.returns-in_default
returns-in_default c =
    λ is. c.in_default.ensures.cases.0 (digits_are_text c.args.base c.args.text.now c.requires.most is.digits.1)
