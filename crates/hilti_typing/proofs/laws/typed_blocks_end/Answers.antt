use Rattle.hilti_typing.proofs.Programs as programs
use Rattle.hilti_typing.proofs.laws.typed_blocks_end.Goals as goal

pub returns : goal.returns
returns c = programs.typed_blocks_end
