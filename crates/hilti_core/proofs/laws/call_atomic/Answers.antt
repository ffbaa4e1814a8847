use Rattle.hilti_core.proofs.Atomic.{call_atomic}
use Rattle.hilti_core.proofs.laws.call_atomic.Goals as goal

pub returns : goal.returns
returns g c = λ about calls limit journal. call_atomic (g.B.Body.effect about) calls limit journal
