use Rattle.hilti_core.proofs.Kept.{keeps_core}
use Rattle.hilti_core.proofs.laws.legal_core.Goals as goal

pub returns : goal.returns
returns g c = λ about calls limit journal. keeps_core (g.B.Body.effect about) (g.B.Body.sound about) (g.met.B.Body.segments about) calls limit journal
