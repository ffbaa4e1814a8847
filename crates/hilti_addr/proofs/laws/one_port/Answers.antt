use Rattle.hilti_addr.proofs.Forms as forms
use Rattle.hilti_addr.proofs.laws.one_port.Goals as goal

pub returns : goal.returns
returns c = forms.one_port
