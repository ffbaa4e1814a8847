use Rattle.hilti_refusals.proofs.Once.{refused_once}
use Rattle.hilti_refusals.proofs.laws.refused_once.Goals as goal

pub returns : goal.returns
returns c = refused_once
