use Rattle.hilti_core.proofs.Schedule.{one_by_one}
use Rattle.hilti_core.proofs.laws.one_by_one.Goals as goal

pub returns : goal.returns
returns g c = λ about calls limit journal. one_by_one (g.B.Body.effect about) calls limit journal
