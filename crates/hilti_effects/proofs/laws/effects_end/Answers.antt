use Rattle.hilti_effects.proofs.Segments.{effects-end}
use Rattle.hilti_effects.proofs.laws.effects_end.Goals as goal

pub returns : goal.returns
returns c = effects-end
