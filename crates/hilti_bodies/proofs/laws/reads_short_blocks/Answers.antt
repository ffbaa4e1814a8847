use Rattle.hilti_bodies.proofs.Shortness as shortness
use Rattle.hilti_bodies.proofs.laws.reads_short_blocks.Goals as goal

pub returns : goal.returns
returns c = shortness.short
