use Rattle.hilti_heap.proofs.Keeping.{only_held}
use Rattle.hilti_heap.proofs.laws.only_held_are_kept.Goals as goal

pub returns : goal.returns
returns c = only_held
