use Rattle.hilti_typing.proofs.Bodies as bodies
use Rattle.hilti_typing.proofs.laws.bodies_of_hooks.Goals as goal

pub returns : goal.returns
returns c = bodies.bodies_of_hooks
