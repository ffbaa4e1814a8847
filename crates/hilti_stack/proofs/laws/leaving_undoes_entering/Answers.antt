use Rattle.hilti_stack.proofs.Returns.{undoes}
use Rattle.hilti_stack.proofs.laws.leaving_undoes_entering.Goals as goal

pub returns : goal.returns
returns c s callee after its head below leaves = undoes s its callee head after below leaves
