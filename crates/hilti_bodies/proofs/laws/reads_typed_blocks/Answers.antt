use Rattle.hilti_bodies.proofs.TypedBlocks.{blocks_of_body}
use Rattle.hilti_bodies.proofs.laws.reads_typed_blocks.Goals as goal

pub returns : goal.returns
returns c = blocks_of_body c.reads_typed_lines.ensures
