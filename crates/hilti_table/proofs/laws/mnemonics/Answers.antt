use Rattle.std.proofs.Common.{refl}
use Rattle.hilti_table.proofs.Finding.{written_so}
use Rattle.hilti_table.proofs.laws.mnemonics.Goals as goal

pub returns-clause-distinct : goal.returns-clause-distinct
returns-clause-distinct c = written_so

pub returns-clause-counted : goal.returns-clause-counted
returns-clause-counted c = refl
