use Rattle.hilti_link.proofs.Once.{one_refusal}
use Rattle.hilti_link.proofs.laws.one_refusal.Goals as goal

pub returns : goal.returns
returns c = one_refusal
