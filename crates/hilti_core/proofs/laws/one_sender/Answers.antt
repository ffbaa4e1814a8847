use Rattle.hilti_core.proofs.OneSender.{one_sender}
use Rattle.hilti_core.proofs.laws.one_sender.Goals as goal

pub returns : goal.returns
returns g c = λ about calls limit. one_sender (g.B.Body.effect about) calls limit
