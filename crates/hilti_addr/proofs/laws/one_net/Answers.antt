use Rattle.hilti_addr.proofs.Texts as texts
use Rattle.hilti_addr.proofs.laws.one_net.Goals as goal

pub returns : goal.returns
returns c = texts.one_net
