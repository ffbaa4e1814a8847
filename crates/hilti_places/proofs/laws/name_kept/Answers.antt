use Rattle.hilti_places.proofs.Items.{name_kept}
use Rattle.hilti_places.proofs.laws.name_kept.Goals as goal

pub returns : goal.returns
returns c = name_kept
