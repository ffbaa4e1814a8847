use Rattle.hilti_places.proofs.Turns.{places_rise}
use Rattle.hilti_places.proofs.laws.places_rise.Goals as goal

pub returns : goal.returns
returns c = places_rise
