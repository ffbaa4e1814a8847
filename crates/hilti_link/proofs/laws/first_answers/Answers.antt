use Rattle.hilti_link.proofs.Firsts.{first_item, first_module}
use Rattle.hilti_link.proofs.laws.first_answers.Goals as goal

pub returns : goal.returns
returns c = record { modules = first_module; items = first_item }
