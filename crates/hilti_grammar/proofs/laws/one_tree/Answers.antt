use Rattle.hilti_grammar.proofs.Theorem.{has_one_tree}
use Rattle.hilti_grammar.proofs.laws.one_tree.Goals as goal

pub returns : goal.returns
returns g c = λ grammar. has_one_tree grammar
