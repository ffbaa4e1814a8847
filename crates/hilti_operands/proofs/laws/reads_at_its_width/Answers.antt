use Rattle.hilti_operands.proofs.Widening.{width_is_kept}
use Rattle.hilti_operands.proofs.laws.reads_at_its_width.Goals as goal

pub returns : goal.returns
returns c = width_is_kept
