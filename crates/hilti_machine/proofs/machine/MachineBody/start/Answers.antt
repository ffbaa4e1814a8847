use Rattle.std.proofs.Common.{ap}
use Rattle.hilti_machine.specs.Threads.{Facts}
use Rattle.hilti_machine.proofs.Starting.{starts}
use Rattle.hilti_machine.proofs.machine.MachineBody.start.Goals as goal

pub returns : goal.returns
returns c =
    starts c.args.self.now _ _ c.args.vt.now _ c.args.call c.in_ok-calling.calling _
    c.program-program.ensures.typed c.program-program.ensures.is
    (ap (λ (f : Facts). f.fuel) c.self.view_is) c.vt.view_is c.requires.sound
    c.first-first.ensures.is c.first-first.ensures.entry c.in_ok-calling.ensures
