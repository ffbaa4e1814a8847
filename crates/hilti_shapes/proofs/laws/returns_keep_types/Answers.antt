use Rattle.hilti_shapes.proofs.Acting.{returns_keep_types as proved}
use Rattle.hilti_shapes.proofs.laws.returns_keep_types.Goals as goal

pub returns : goal.returns
returns c = proved
