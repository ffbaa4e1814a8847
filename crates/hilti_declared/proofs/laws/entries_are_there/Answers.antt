use Rattle.hilti_declared.proofs.Entering as entering
use Rattle.hilti_declared.proofs.Linked as linked
use Rattle.hilti_declared.proofs.laws.entries_are_there.Goals as goal

pub returns : goal.returns
returns c = entering.entries linked.hook_bodies_are_linked
