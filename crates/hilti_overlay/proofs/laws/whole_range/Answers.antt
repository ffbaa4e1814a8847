use Rattle.hilti_overlay.proofs.Ranges as ranges
use Rattle.hilti_overlay.proofs.laws.whole_range.Goals as goal

pub returns : goal.returns
returns c = ranges.whole_range
