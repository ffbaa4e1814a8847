use Rattle.hilti_core.proofs.Reaches.{reaches_end}
use Rattle.hilti_core.proofs.laws.one_ends.Goals as goal

pub returns : goal.returns
returns g c = λ about calls limit journal. reaches_end (g.B.Body.effect about) (g.B.Body.sound about) (g.met.B.Body.segments about) calls limit journal
