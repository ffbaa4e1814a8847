use Rattle.hilti_refusals.proofs.Once.{never_both}
use Rattle.hilti_refusals.proofs.laws.never_both.Goals as goal

pub returns : goal.returns
returns c = never_both
