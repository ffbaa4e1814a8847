use Rattle.hilti_typing.proofs.Records as records
use Rattle.hilti_typing.proofs.laws.targets.Goals as goal

pub returns : goal.returns
returns c = records.targets
