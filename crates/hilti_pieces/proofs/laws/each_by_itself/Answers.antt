use Rattle.hilti_pieces.proofs.Splits.{each_by_itself}
use Rattle.hilti_pieces.proofs.laws.each_by_itself.Goals as goal

pub returns : goal.returns
returns c = each_by_itself
