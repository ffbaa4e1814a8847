use Rattle.hilti_grammar.proofs.laws.exact.Goals as goal
use Rattle.hilti_grammar.proofs.Theorem.{exactly}

pub returns : goal.returns
returns g c = λ grammar faults. exactly grammar faults
