use Rattle.hilti_shapes.proofs.Acting.{acts_keep_types as proved}
use Rattle.hilti_shapes.proofs.laws.acts_keep_types.Goals as goal

pub returns : goal.returns
returns c = proved
