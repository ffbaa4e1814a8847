use Rattle.hilti_reading.proofs.Refused.{one_refusal}
use Rattle.hilti_reading.proofs.laws.one_refusal.Goals as goal

pub returns : goal.returns
returns c = one_refusal
