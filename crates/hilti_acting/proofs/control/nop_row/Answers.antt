use Rattle.std.proofs.Common.{refl}
use Rattle.hilti_effects.specs.Acting.{next, passes}
use Rattle.hilti_acting.specs.Acts.{marks}
use Rattle.hilti_acting.specs.declared.did.Did.TheVariants as did
use Rattle.hilti_acting.proofs.Going.{goes_on}
use Rattle.hilti_acting.proofs.control.nop_row.Goals as goal

pub returns : goal.returns
returns c =
    goes_on (passes c.args.p.now c.args.stack.now.slots)
    c.args.p.now c.args.stack.now c.args.memory.now (marks did.Went) (next c.args.p.now) (λ st. refl)
    c.requires.stands
