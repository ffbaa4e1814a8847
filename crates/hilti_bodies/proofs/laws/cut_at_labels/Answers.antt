use Rattle.hilti_bodies.proofs.Cutting as cutting
use Rattle.hilti_bodies.proofs.laws.cut_at_labels.Goals as goal

pub returns : goal.returns
returns c = cutting.cut_at_labels
