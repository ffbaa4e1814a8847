use Rattle.hilti_core.proofs.UnderWay.{under_way}
use Rattle.hilti_core.proofs.laws.under_way.Goals as goal

pub returns : goal.returns
returns g c = λ about calls limit journal. under_way (g.B.Body.effect about) (g.B.Body.sound about) (g.met.B.Body.segments about) calls limit journal
