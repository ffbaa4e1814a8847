use Rattle.hilti_calls.proofs.Stacks.{transparent as is_transparent}
use Rattle.hilti_calls.proofs.laws.transparent.Goals as goal

pub returns : goal.returns
returns g c l p = is_transparent l p
