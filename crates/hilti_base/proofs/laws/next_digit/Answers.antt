use Rattle.std.proofs.lemmas.Int.Digits.{digits_value_push}
use Rattle.hilti_base.proofs.laws.next_digit.Goals as goal

pub returns-clause-next : goal.returns-clause-next
returns-clause-next c = λ base digit text. digits_value_push base text digit
