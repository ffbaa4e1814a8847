use Rattle.hilti_declared.proofs.Written as laws
use Rattle.hilti_declared.proofs.laws.functions_have_bodies.Goals as goal

pub returns : goal.returns
returns c = laws.functions_have_bodies
