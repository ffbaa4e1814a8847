use Rattle.hilti_int.proofs.Readings.{least_by_minus_one, no_remainder}
use Rattle.hilti_int.proofs.laws.least.Goals as goal

pub returns : goal.returns
returns c = record { quotient = least_by_minus_one; remainder = no_remainder }
