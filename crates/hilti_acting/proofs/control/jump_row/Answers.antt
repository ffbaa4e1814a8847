use Rattle.std.proofs.Common.{refl, []}
use Rattle.hilti_calls.specs.Calls.{Action.Go}
use Rattle.hilti_effects.specs.Acting.{at}
use Rattle.hilti_effects.specs.Raising.{to_block}
use Rattle.hilti_acting.specs.Acts.{marks}
use Rattle.hilti_acting.specs.declared.did.Did.TheVariants as did
use Rattle.hilti_acting.proofs.Going.{goes_on}
use Rattle.hilti_acting.proofs.control.jump_row.Goals as goal

pub returns : goal.returns
returns c =
    goes_on (λ st. Go [] (at (to_block c.args.p.now c.args.block) c.args.stack.now.slots) st)
    c.args.p.now c.args.stack.now c.args.memory.now (marks did.Went) (to_block c.args.p.now c.args.block) (λ st. refl)
    c.requires.stands
