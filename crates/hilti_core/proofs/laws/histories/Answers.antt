use Rattle.hilti_core.proofs.Once.{are_histories}
use Rattle.hilti_core.proofs.laws.histories.Goals as goal

pub returns : goal.returns
returns g c = λ about calls picks. are_histories (g.B.Body.effect about) calls picks
