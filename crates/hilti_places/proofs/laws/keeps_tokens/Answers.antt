use Rattle.hilti_places.proofs.Kept.{keeps_tokens}
use Rattle.hilti_places.proofs.laws.keeps_tokens.Goals as goal

pub returns : goal.returns
returns c = keeps_tokens
