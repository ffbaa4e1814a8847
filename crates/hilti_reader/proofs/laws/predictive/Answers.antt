use Rattle.std.proofs.Common.{refl}
use Rattle.hilti_reader.proofs.laws.predictive.Goals as goal

pub returns : goal.returns
returns c = refl
