use Rattle.hilti_shapes.proofs.Threads.{entries_are_typed, fresh_threads_are_typed}
use Rattle.hilti_shapes.proofs.laws.beginnings_are_typed.Goals as goal

pub returns : goal.returns
returns c = record { entries = entries_are_typed; threads = fresh_threads_are_typed }
