use Rattle.hilti_declared.proofs.Hooked as laws
use Rattle.hilti_declared.proofs.laws.hooks_are_typed.Goals as goal

pub returns : goal.returns
returns c = laws.hooks_are_typed
