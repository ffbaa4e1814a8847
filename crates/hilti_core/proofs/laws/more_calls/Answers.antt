use Rattle.hilti_core.proofs.Kept.{takes_more}
use Rattle.hilti_core.proofs.laws.more_calls.Goals as goal

pub returns : goal.returns
returns g c = λ about calls more limit journal. takes_more (g.B.Body.effect about) calls more limit journal
