use Rattle.hilti_program.proofs.Entries.{init_is}
use Rattle.hilti_program.proofs.program.Program.init.Goals as goal

pub returns-clause-entry : goal.returns-clause-entry
returns-clause-entry c =
    init_is c.self.inside.parts c.args.self.now c.self.inside.packet c.self.inside.init c.self.inside.done c.self.invariant c.self.view_is
