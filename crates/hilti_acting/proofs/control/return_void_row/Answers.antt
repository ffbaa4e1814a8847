use Rattle.std.proofs.Common.{refl, None}
use Rattle.hilti_calls.specs.Calls.{Action.Leave}
use Rattle.hilti_effects.specs.declared.ending.Ending.TheVariants as endings
use Rattle.hilti_acting.proofs.Going.{ends}
use Rattle.hilti_acting.proofs.control.return_void_row.Goals as goal

pub returns : goal.returns
returns c =
    ends (λ st. Leave (endings.Returned c.args.p.now.target None) st) c.args.p.now c.args.stack.now
    c.args.memory.now (endings.Returned c.args.p.now.target None) (λ st. refl)
    c.requires.stands.fits
