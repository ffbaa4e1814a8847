use Rattle.hilti_machine.proofs.Emptying.{one_less, remains}
use Rattle.hilti_machine.proofs.letting.let_frames_go.Goals as goal

pub frames-smaller : goal.frames-smaller
frames-smaller c =
    one_less c.in-Ok._caller c.args.memory.now c.frames.memory c.returned.new.memory c.frames.stack
    c.returned.new.stack c.frames.invariant c.in-Ok.ensures.on

pub frames-preserved : goal.frames-preserved
frames-preserved c =
    remains c.in-Ok._caller c.args.memory.now c.frames.memory c.returned.new.memory c.frames.stack
    c.returned.new.stack c.frames.invariant c.in-Ok.ensures.on
