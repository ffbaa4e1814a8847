use Rattle.hilti_lexer.proofs.Unique.{one_refusal}
use Rattle.hilti_lexer.proofs.laws.one_refusal.Goals as goal

pub returns : goal.returns
returns c = one_refusal
