use Rattle.hilti_openings.proofs.Holding.{begin_with_nothing}
use Rattle.hilti_openings.proofs.laws.begin_with_nothing.Goals as goal

pub returns : goal.returns
returns c = begin_with_nothing
