use Rattle.hilti_bodies.proofs.Naming as naming
use Rattle.hilti_bodies.proofs.laws.reads_no_bodies.Goals as goal

pub returns : goal.returns
returns c = naming.blocks_name_no_bodies c.names_no_bodies.ensures
