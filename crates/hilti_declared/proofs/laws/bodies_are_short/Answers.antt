use Rattle.hilti_declared.proofs.Few as laws
use Rattle.hilti_declared.proofs.laws.bodies_are_short.Goals as goal

pub returns : goal.returns
returns c = laws.bodies_are_short
