use Rattle.std.proofs.Common.{sym, ◌∙◌}
use Rattle.hilti_machine.proofs.Giving.{busy, gives_segment}
use Rattle.hilti_machine.proofs.machine.MachineBody.segment.Goals as goal

pub run-requires-clause-under_way : goal.run-requires-clause-under_way
run-requires-clause-under_way c =
    busy c.args.self.now c.program-program.result.now c.args.vt.now _ c.in-Some.calling
    c.program-program.ensures.is c.vt.view_is (sym c.take.ensures.value ∙ c.in-Some.is) c.requires

pub returns : goal.returns
returns c =
    gives_segment c.args.self.now c.program-program.result.now c.args.vt.now _ c.in-Some.calling
    c.in_ok-segment.segment c.in_ok-segment.next c.run.new.memory c.program-program.ensures.is
    c.vt.view_is (sym c.take.ensures.value ∙ c.in-Some.is) c.in_ok-segment.ensures
