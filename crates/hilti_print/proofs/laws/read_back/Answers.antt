use Rattle.hilti_print.proofs.Literals as literals
use Rattle.hilti_print.proofs.laws.read_back.Goals as goal

pub returns : goal.returns
returns c = literals.address_back
