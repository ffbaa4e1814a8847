use Rattle.hilti_reading.proofs.Refused.{never_both}
use Rattle.hilti_reading.proofs.laws.never_both.Goals as goal

pub returns : goal.returns
returns c = never_both
