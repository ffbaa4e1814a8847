use Rattle.hilti_int.proofs.Readings.{same_difference, same_product, same_sum}
use Rattle.hilti_int.proofs.laws.same_bits.Goals as goal

pub returns : goal.returns
returns c = record { sum = same_sum; difference = same_difference; product = same_product }
