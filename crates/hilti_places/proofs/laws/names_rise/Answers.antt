use Rattle.hilti_places.proofs.Turns.{names_rise}
use Rattle.hilti_places.proofs.laws.names_rise.Goals as goal

pub returns : goal.returns
returns c = names_rise
