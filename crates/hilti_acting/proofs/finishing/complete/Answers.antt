use Rattle.std.proofs.Common.{subst}
use Rattle.hilti_heap.specs.Stands.{Meets}
use Rattle.hilti_acting.proofs.Answering.{answer_taken}
use Rattle.hilti_acting.proofs.finishing.complete.Goals as goal

pub returns-in-Ok : goal.returns-in-Ok
returns-in-Ok c does before same meets =
    answer_taken c.args.program.now c.args.p.now c.args.stack.now c.args.memory.now before
    c.args.target c.in-Ok.value does c.receive.new.stack c.receive.new.memory same
    (subst (λ answer. Meets does answer before.heap c.args.memory.now.heap) c.in-Ok.is meets)
    c.receive.ensures.stack c.receive.ensures.globals c.receive.ensures.fewer
    c.receive.ensures.fits c.requires.none_made
