use Rattle.hilti_int.proofs.Unwrapped.{difference_is, negative_is, quotient_is, too_great}
use Rattle.hilti_int.proofs.laws.exact_over_whole_numbers.Goals as goal

pub returns : goal.returns
returns c = record {
  difference = difference_is;
  negative = negative_is;
  quotient = quotient_is;
  too_great = too_great;
}
