use Rattle.hilti_base.proofs.Splits as splits
use Rattle.hilti_base.proofs.laws.one_split.Goals as goal

pub returns : goal.returns
returns c = λ byte text front back other_front other_back. splits.one_split byte text front other_front back other_back
