use Rattle.hilti_link.proofs.Once.{one_meaning}
use Rattle.hilti_link.proofs.laws.one_meaning.Goals as goal

pub returns : goal.returns
returns c = one_meaning
