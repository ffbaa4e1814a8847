use Rattle.hilti_places.proofs.Tokens.{tokens_rise}
use Rattle.hilti_places.proofs.laws.tokens_rise.Goals as goal

pub returns : goal.returns
returns c = tokens_rise
