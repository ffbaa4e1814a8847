use Rattle.hilti_grammar.proofs.Theorem.{first_refusal}
use Rattle.hilti_grammar.proofs.laws.first_refusal.Goals as goal

pub returns : goal.returns
returns g c = λ grammar. first_refusal grammar
