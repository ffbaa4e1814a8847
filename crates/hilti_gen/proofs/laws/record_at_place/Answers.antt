use Rattle.hilti_gen.proofs.Captures as captures
use Rattle.hilti_gen.proofs.laws.record_at_place.Goals as goal

pub returns : goal.returns
returns c = captures.record_at_place
