use Rattle.hilti_bodies.proofs.Examples as examples
use Rattle.hilti_bodies.proofs.laws.examples.Goals as goal

pub returns : goal.returns
returns c = examples.refused
