use Rattle.hilti_refusals.proofs.ShallowDerives.{reads_text}
use Rattle.hilti_refusals.proofs.laws.reads_text.Goals as goal

pub returns : goal.returns
returns c = reads_text
