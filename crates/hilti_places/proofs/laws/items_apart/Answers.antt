use Rattle.hilti_places.proofs.Turns.{items_apart}
use Rattle.hilti_places.proofs.laws.items_apart.Goals as goal

pub returns : goal.returns
returns c = items_apart
