use Rattle.hilti_int.proofs.Readings.{wrapped_below, wrapped_congruent}
use Rattle.hilti_int.proofs.laws.modulo.Goals as goal

pub returns : goal.returns
returns c = record { below = wrapped_below; congruent = wrapped_congruent }
