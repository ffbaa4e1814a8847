use Rattle.hilti_declared.proofs.Linked as linked
use Rattle.hilti_declared.proofs.Once as once
use Rattle.hilti_declared.proofs.laws.bodies_of_hooks.Goals as goal

pub returns-clause-linked : goal.returns-clause-linked
returns-clause-linked c = linked.hook_bodies_are_linked

pub returns-clause-once : goal.returns-clause-once
returns-clause-once c = once.bodies_belong_once
