use Rattle.hilti_reading.proofs.Modules.{one_module}
use Rattle.hilti_reading.proofs.laws.one_module.Goals as goal

pub returns : goal.returns
returns c = one_module
