use Rattle.hilti_check.proofs.Checked.{body_refused}
use Rattle.hilti_check.proofs.checking.check.Goals as goal

pub returns-in-Err-clause-is : goal.returns-in-Err-clause-is
returns-in-Err-clause-is c = body_refused c.args.linked.modules _ c.in-Err.ensures
