use Rattle.hilti_acting.proofs.Callees.{call_enters}
use Rattle.hilti_acting.proofs.calling.call_row.Goals as goal

pub returns : goal.returns
returns c =
    call_enters c.args.program.now c.args.p.now c.args.stack.now c.arguments.new.stack
    c.make_locals.new.stack c.enter.new.self c.args.memory.now c.arguments.new.memory
    c.args.function c.args.sources.now c.args.target c.requires.stands.none_made
    c.in_ok-arguments.ensures.stack c.in_ok-make_locals.ensures c.in_ok-enter.ensures.ok
    c.in_ok-arguments.ensures.globals c.in_ok-arguments.ensures.fewer
    c.in_ok-arguments.ensures.fits
