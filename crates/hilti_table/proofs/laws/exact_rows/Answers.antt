use Rattle.std.proofs.Common.{refl}
use Rattle.hilti_table.proofs.Each.{exact_row}
use Rattle.hilti_table.proofs.laws.exact_rows.Goals as goal

pub returns-clause-rows : goal.returns-clause-rows
returns-clause-rows c = exact_row

pub returns-clause-six : goal.returns-clause-six
returns-clause-six c = refl
