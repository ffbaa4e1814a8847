use Rattle.hilti_classifier.proofs.First.{first_is_one}
use Rattle.hilti_classifier.proofs.laws.one_answer.Goals as goal

pub returns : goal.returns
returns g c = λ rules query at other. first_is_one g.K.PartialEq.eq query rules at other
