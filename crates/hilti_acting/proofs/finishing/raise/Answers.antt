use Rattle.hilti_acting.proofs.Raises.{raise_taken, raise_leaves}
use Rattle.hilti_acting.proofs.finishing.raise.Goals as goal

pub returns-in-Some : goal.returns-in-Some
returns-in-Some c =
    raise_taken c.args.program.now c.parts-parts.ensures.tree c.args.p.now c.args.stack.now
    c.args.memory.now c.args.exception c.args.text c.handler.result c.handler.ensures.first
    c.in-Some.handler c.in-Some.is c.take_raise.result c.take_raise.new.stack
    c.take_raise.new.memory c.take_raise.ensures.position c.take_raise.ensures.stack
    c.take_raise.ensures.globals c.take_raise.ensures.fewer c.take_raise.ensures.fits
    c.requires.stands.none_made

pub returns-in-None : goal.returns-in-None
returns-in-None c =
    raise_leaves c.args.program.now c.parts-parts.ensures.tree c.args.p.now c.args.stack.now
    c.args.memory.now c.args.exception c.args.text c.handler.result c.handler.ensures.first
    c.in-None.is c.requires.stands.fits
