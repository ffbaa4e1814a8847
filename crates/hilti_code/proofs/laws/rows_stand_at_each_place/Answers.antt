use Rattle.hilti_code.proofs.Places.{stands_at_each_place}
use Rattle.hilti_code.proofs.laws.rows_stand_at_each_place.Goals as goal

pub returns : goal.returns
returns c = stands_at_each_place
