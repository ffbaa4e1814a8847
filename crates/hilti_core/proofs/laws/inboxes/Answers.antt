use Rattle.hilti_core.proofs.Inboxes.{keeps_inboxes}
use Rattle.hilti_core.proofs.laws.inboxes.Goals as goal

pub returns : goal.returns
returns g c = λ about calls limit journal. keeps_inboxes (g.B.Body.effect about) calls limit journal
