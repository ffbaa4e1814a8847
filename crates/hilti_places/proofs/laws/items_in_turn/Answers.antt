use Rattle.hilti_places.proofs.Items.{items_in_turn}
use Rattle.hilti_places.proofs.laws.items_in_turn.Goals as goal

pub returns : goal.returns
returns c = items_in_turn
