use Rattle.hilti_stack.proofs.Counting.{sets_count}
use Rattle.hilti_stack.proofs.laws.slots_count.Goals as goal

pub returns-clause-set : goal.returns-clause-set
returns-clause-set c holds s = sets_count holds s
