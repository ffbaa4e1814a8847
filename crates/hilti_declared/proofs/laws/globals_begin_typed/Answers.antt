use Rattle.hilti_declared.proofs.Values as laws
use Rattle.hilti_declared.proofs.laws.globals_begin_typed.Goals as goal

pub returns : goal.returns
returns c = laws.globals_begin_typed
