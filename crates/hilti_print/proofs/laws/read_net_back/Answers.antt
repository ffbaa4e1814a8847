use Rattle.hilti_print.proofs.Literals as literals
use Rattle.hilti_print.proofs.laws.read_net_back.Goals as goal

pub returns : goal.returns
returns c = literals.net_back
