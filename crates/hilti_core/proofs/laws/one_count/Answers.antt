use Rattle.hilti_core.proofs.OneSender.{one_count}
use Rattle.hilti_core.proofs.laws.one_count.Goals as goal

pub returns : goal.returns
returns g c = λ about calls limit. one_count (g.B.Body.effect about) calls limit
