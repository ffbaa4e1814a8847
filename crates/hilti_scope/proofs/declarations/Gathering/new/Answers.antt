use Rattle.hilti_scope.proofs.Modules.{IsGathered-none}
use Rattle.hilti_scope.proofs.declarations.Gathering.new.Goals as goal

pub returns : goal.returns
returns c = IsGathered-none c.new.result c.new-2.result c.new-3.result c.new.ensures c.new-2.ensures c.new-3.ensures
