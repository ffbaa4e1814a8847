use Rattle.std.proofs.Common.{refl, [], ◌∷◌, Some}
use Rattle.hilti_calls.specs.Calls.{Action.Go}
use Rattle.hilti_calls.specs.Parts.{Mark.Cut}
use Rattle.hilti_core.specs.declared.pieces.End.TheVariants as ends
use Rattle.hilti_effects.specs.Acting.{at, next}
use Rattle.hilti_acting.specs.Acts.{marks}
use Rattle.hilti_acting.specs.declared.did.Did.TheVariants as did
use Rattle.hilti_acting.proofs.Going.{goes_on}
use Rattle.hilti_acting.proofs.control.yield_row.Goals as goal

pub returns : goal.returns
returns c =
    goes_on (λ st.
    Go (Cut (record { «end» = ends.Yielded; state = st; place = Some (next c.args.p.now) }) ∷ [])
    (at (next c.args.p.now) c.args.stack.now.slots) st)
    c.args.p.now c.args.stack.now c.args.memory.now (marks did.Yielded) (next c.args.p.now) (λ st. refl)
    c.requires.stands
