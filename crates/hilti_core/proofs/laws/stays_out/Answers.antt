use Rattle.hilti_core.proofs.Journals.{stays_out}
use Rattle.hilti_core.proofs.laws.stays_out.Goals as goal

pub returns : goal.returns
returns g c = λ about calls limit first. stays_out (g.B.Body.effect about) calls limit first
