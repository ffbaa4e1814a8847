use Rattle.hilti_link.proofs.Once.{never_both}
use Rattle.hilti_link.proofs.laws.never_both.Goals as goal

pub returns : goal.returns
returns c = never_both
