use Rattle.hilti_stack.proofs.Counting.{calls_count as calls}
use Rattle.hilti_stack.proofs.laws.calls_count.Goals as goal

pub returns : goal.returns
returns c holds s = calls holds s
