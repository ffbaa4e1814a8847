use Rattle.hilti_int.proofs.Readings.{signed_above, signed_below}
use Rattle.hilti_int.proofs.laws.range.Goals as goal

pub returns : goal.returns
returns c = record { above = signed_above; below = signed_below }
