use Rattle.hilti_operands.proofs.Joining.{first_refused}
use Rattle.hilti_operands.proofs.laws.refuses_the_first.Goals as goal

pub returns : goal.returns
returns c = first_refused
