use Rattle.hilti_int.proofs.Unwrapped.{exact_as_wrapping}
use Rattle.hilti_int.proofs.laws.exact_as_wrapping.Goals as goal

pub returns : goal.returns
returns c = exact_as_wrapping
