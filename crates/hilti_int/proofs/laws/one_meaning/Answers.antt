use Rattle.hilti_int.proofs.Readings.{signed_of_unsigned, unsigned_of_signed}
use Rattle.hilti_int.proofs.laws.one_meaning.Goals as goal

pub returns : goal.returns
returns c = record { back = unsigned_of_signed; forth = signed_of_unsigned }
