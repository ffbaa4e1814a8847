use Rattle.hilti_row_types.proofs.Sameness.{tests_sameness}
use Rattle.hilti_row_types.proofs.same.is_same.Goals as goal

pub returns : goal.returns
returns c = tests_sameness _ _ _ c.same.ensures
