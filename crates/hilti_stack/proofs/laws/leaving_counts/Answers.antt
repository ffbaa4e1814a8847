use Rattle.hilti_stack.proofs.Counting.{leaves_count}
use Rattle.hilti_stack.proofs.laws.leaving_counts.Goals as goal

pub returns : goal.returns
returns c holds s after head leaves = leaves_count holds s after head leaves
