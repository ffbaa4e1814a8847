use Rattle.hilti_core.proofs.Journals.{runs_on}
use Rattle.hilti_core.proofs.laws.one_after_another.Goals as goal

pub returns : goal.returns
returns g c = λ about calls limit first. runs_on (g.B.Body.effect about) calls limit first
