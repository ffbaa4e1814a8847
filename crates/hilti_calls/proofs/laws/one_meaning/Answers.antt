use Rattle.hilti_calls.proofs.Fuel.{the_meaning}
use Rattle.hilti_calls.proofs.laws.one_meaning.Goals as goal

pub returns : goal.returns
returns g c l = the_meaning l
