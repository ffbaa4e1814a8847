use Rattle.hilti_heap.proofs.Keeping.{held_kept}
use Rattle.hilti_heap.proofs.laws.held_are_kept.Goals as goal

pub returns : goal.returns
returns c = held_kept
