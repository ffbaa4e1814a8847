use Rattle.hilti_lines.proofs.Typing.{lines_typed}
use Rattle.hilti_lines.proofs.laws.reads_typed_lines.Goals as goal

pub returns : goal.returns
returns c = lines_typed
