use Rattle.hilti_base.proofs.Decimals.{number_of_text, text_of_number}
use Rattle.hilti_base.proofs.laws.one_text.Goals as goal

pub returns : goal.returns
returns c = λ most text n below. (text_of_number most text n below, λ is. number_of_text most text n below is.0 is.1)
