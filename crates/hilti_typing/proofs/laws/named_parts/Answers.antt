use Rattle.hilti_typing.proofs.Programs as programs
use Rattle.hilti_typing.proofs.laws.named_parts.Goals as goal

pub returns : goal.returns
returns c = programs.named_parts
