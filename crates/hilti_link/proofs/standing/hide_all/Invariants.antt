use Rattle.std.proofs.Common.{◌≡◌, ℕ, List, ◌++◌, length, take}
use Rattle.hilti_module.specs.declared.module.Module.{Module}
use Rattle.hilti_scope.specs.Scopes.{Sees}
use Rattle.hilti_link.specs.TypedWords.{names_of}
use Rattle.hilti_link.proofs.standing.hide_all.Given as goal

-- the words so far hide others
abbrev pub invariant-loop-at : goal.invariant-loop-at
invariant-loop-at l =
    (modules : List Module) (file here : ℕ) (locals : List (List ℕ)) → Sees modules file here locals l.initial.scope
    → l.first ≡ length locals → Sees modules file here (locals ++ names_of (take l.at l.words)) l.scope
