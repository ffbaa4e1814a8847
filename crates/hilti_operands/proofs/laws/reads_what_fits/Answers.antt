use Rattle.hilti_operands.proofs.Joining.{all_fit}
use Rattle.hilti_operands.proofs.laws.reads_what_fits.Goals as goal

pub returns : goal.returns
returns c = all_fit
