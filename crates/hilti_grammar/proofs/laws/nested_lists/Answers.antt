use Rattle.hilti_grammar.proofs.Examples.{nested_is, nested_derives, clashing_is}
use Rattle.hilti_grammar.proofs.laws.nested_lists.Goals as goal

pub returns : goal.returns
returns c = record { predictive = nested_is; derives = nested_derives; clashing = clashing_is }
