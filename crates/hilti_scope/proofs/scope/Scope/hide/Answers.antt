use Rattle.std.proofs.Common.{refl}
use Rattle.hilti_scope.proofs.Seeing.{Sees-hide}
use Rattle.hilti_scope.proofs.scope.Scope.hide.Goals as goal

pub returns-clause-hides : goal.returns-clause-hides
returns-clause-hides c = λ modules file here locals sees next.
    Sees-hide modules file here locals c.args.self.now _ c.args.word.now c.args.slot sees next refl refl refl c.in_ok-note.ensures.noted
