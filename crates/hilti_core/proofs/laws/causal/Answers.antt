use Rattle.hilti_core.proofs.Causal.{causal}
use Rattle.hilti_core.proofs.laws.causal.Goals as goal

pub returns : goal.returns
returns g c = λ about calls limit journal. causal (g.B.Body.effect about) calls limit journal
