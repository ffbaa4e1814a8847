use Rattle.hilti_machine.proofs.Placing.{keeps_held}
use Rattle.hilti_machine.proofs.vthread.Vthread.kept.Goals as goal

pub returns-clause-held : goal.returns-clause-held
returns-clause-held c facts number finished running =
    keeps_held facts c.args.self.now number finished running
