use Rattle.hilti_declared.proofs.Sized as laws
use Rattle.hilti_declared.proofs.laws.tables_are_short.Goals as goal

pub returns : goal.returns
returns c = laws.tables_are_short
