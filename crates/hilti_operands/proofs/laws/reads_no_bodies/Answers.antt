use Rattle.hilti_operands.proofs.Widening.{no_bodies}
use Rattle.hilti_operands.proofs.laws.reads_no_bodies.Goals as goal

pub returns : goal.returns
returns c = no_bodies
