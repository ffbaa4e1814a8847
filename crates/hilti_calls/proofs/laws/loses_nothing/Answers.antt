use Rattle.hilti_calls.proofs.Cutting.{loses_nothing as none_lost}
use Rattle.hilti_calls.proofs.laws.loses_nothing.Goals as goal

pub returns : goal.returns
returns g c marks last = none_lost marks last
