use Rattle.hilti_timers.proofs.Steps.{nowhere}
use Rattle.hilti_timers.proofs.manager.place.Goals as goal

pub returns-clause-none : goal.returns-clause-none
returns-clause-none g c = λ _. nowhere c.args.entries.now c.loop-at.at c.args.serial.n c.loop-at-test.false c.loop-at.invariant
