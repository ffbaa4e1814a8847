use Rattle.hilti_lexer.proofs.Unique.{read_or_refused}
use Rattle.hilti_lexer.proofs.laws.read_or_refused.Goals as goal

pub returns : goal.returns
returns c = read_or_refused
