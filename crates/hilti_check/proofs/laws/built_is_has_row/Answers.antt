use Rattle.hilti_check.proofs.Resolved.{built_is_has_row}
use Rattle.hilti_check.proofs.laws.built_is_has_row.Goals as goal

pub returns : goal.returns
returns c = built_is_has_row
