use Rattle.hilti_lines.proofs.Examples as examples
use Rattle.hilti_lines.proofs.laws.examples.Goals as goal

pub returns-clause-refused : goal.returns-clause-refused
returns-clause-refused c = examples.refused_lines

pub returns-clause-read : goal.returns-clause-read
returns-clause-read c = examples.read_line_is
