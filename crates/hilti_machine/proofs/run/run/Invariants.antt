use Rattle.std.proofs.Common.{◌≡◌, ℕ, Bool, []}
use Rattle.hilti_effects.specs.State.{Ends}
use Rattle.hilti_machine.specs.Steps.{said, IsAmid}
use Rattle.hilti_machine.proofs.run.run.Given as goal

abbrev pub invariant-instructions : goal.invariant-instructions
invariant-instructions l =
    (l.calling.function ≡ l.fn.calling.function)
    × ((all : Ends) (number : ℕ) (ran : Bool)
    → IsAmid l.program all (said []) l.fn.calling l.fn.memory number ran
    → IsAmid l.program all (said l.items) l.calling l.memory number ran)

abbrev pub decreases-instructions : goal.decreases-instructions
decreases-instructions l = l.calling.fuel
