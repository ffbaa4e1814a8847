use Rattle.hilti_operands.proofs.Joining.{operand_asked}
use Rattle.hilti_operands.proofs.laws.reads_what_is_asked.Goals as goal

pub returns : goal.returns
returns c = operand_asked
