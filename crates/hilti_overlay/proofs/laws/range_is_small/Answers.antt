use Rattle.hilti_overlay.proofs.Ranges as ranges
use Rattle.hilti_overlay.proofs.laws.range_is_small.Goals as goal

pub returns : goal.returns
returns c = ranges.range_is_small
