use Rattle.hilti_typing.proofs.Examples as examples
use Rattle.hilti_typing.proofs.laws.examples.Goals as goal

pub returns-clause-fitting : goal.returns-clause-fitting
returns-clause-fitting c = examples.fitting_lines

pub returns-clause-refused : goal.returns-clause-refused
returns-clause-refused c = examples.refused_lines
