use Rattle.hilti_scope.proofs.Seeing.{Sees-new}
use Rattle.hilti_scope.proofs.scope.Scope.new.Goals as goal

pub returns : goal.returns
returns c = λ modules are. Sees-new modules _ are c.new.ensures
