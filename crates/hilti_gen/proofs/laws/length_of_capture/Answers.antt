use Rattle.hilti_gen.proofs.Captures as captures
use Rattle.hilti_gen.proofs.laws.length_of_capture.Goals as goal

pub returns : goal.returns
returns c = captures.length_of_capture
