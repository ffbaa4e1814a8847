use Rattle.hilti_declared.proofs.Parents as laws
use Rattle.hilti_declared.proofs.laws.exceptions_are_typed.Goals as goal

pub returns : goal.returns
returns c = laws.exceptions_are_typed
