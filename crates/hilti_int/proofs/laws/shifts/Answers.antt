use Rattle.hilti_int.proofs.Readings.{all_sign, no_sign}
use Rattle.hilti_int.proofs.Shifts.{shifted_left, shifted_right}
use Rattle.hilti_int.proofs.laws.shifts.Goals as goal

pub returns : goal.returns
returns c = record { left = shifted_left; right = shifted_right; sign = all_sign; no_sign = no_sign }
