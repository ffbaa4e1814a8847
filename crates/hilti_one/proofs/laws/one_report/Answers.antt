use Rattle.hilti_one.proofs.Reports.{one_report}
use Rattle.hilti_one.proofs.laws.one_report.Goals as goal

pub returns : goal.returns
returns g c = λ about calls limit. one_report (g.B.Body.effect about) calls limit
