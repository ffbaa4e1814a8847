use Rattle.hilti_lines.proofs.Typing.{names_none}
use Rattle.hilti_lines.proofs.laws.names_no_bodies.Goals as goal

pub returns : goal.returns
returns c = names_none
