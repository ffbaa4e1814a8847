use Rattle.hilti_grammar.proofs.Theorem.{ends_whole}
use Rattle.hilti_grammar.proofs.laws.whole.Goals as goal

pub returns : goal.returns
returns g c = λ grammar faults. ends_whole grammar faults
