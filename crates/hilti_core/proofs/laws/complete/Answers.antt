use Rattle.hilti_core.proofs.Complete.{completes}
use Rattle.hilti_core.proofs.laws.complete.Goals as goal

pub returns : goal.returns
returns g c = λ about calls limit journal. completes (g.B.Body.effect about) calls limit journal
