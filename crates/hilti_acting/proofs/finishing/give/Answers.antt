use Rattle.std.proofs.Common.{refl}
use Rattle.hilti_acting.specs.Acts.{answer_of}
use Rattle.hilti_acting.proofs.Answering.{gives_acts, meets_fitted, made_kept}
use Rattle.hilti_acting.proofs.finishing.give.Goals as goal

pub hold_made-answer-requires : goal.hold_made-answer-requires
hold_made-answer-requires c =
    made_kept c.args.memory.now.heap c.args.stack.now c.args.memory.now.globals.items c.args.made
    c.requires.stands.fits c.requires.owned

pub complete-requires-clause-fits : goal.complete-requires-clause-fits
complete-requires-clause-fits c =
    meets_fitted (answer_of c.args.made) c.hold_made-answer.result c.args.memory.now.heap
    c.hold_made-answer.new.heap c.args.stack.now c.args.memory.now.globals.items
    c.hold_made-answer.ensures c.requires.stands.fits

pub returns : goal.returns
returns c =
    gives_acts c.args.program.now c.args.p.now c.args.stack.now c.args.memory.now c.args.target
    c.args.made c.in_ok-did.did c.complete.new.p c.complete.new.stack c.complete.new.memory
    (c.in_ok-did.ensures (answer_of c.args.made) c.args.memory.now refl c.hold_made-answer.ensures)
