use Rattle.std.proofs.Common.{refl, None}
use Rattle.hilti_acting.proofs.Fetching.{never_none, room_left, asked, freed, acted}
use Rattle.hilti_acting.proofs.acting.act.Goals as goal

pub unreachable-requires : goal.unreachable-requires
unreachable-requires c =
    never_none c.args.program.now c.parts-parts.ensures.typed c.args.code.now.functions
    c.requires.code c.args.p.now c.args.stack.now.slots c.args.memory.now.globals.items
    c.args.memory.now.heap c.requires.ready None c.in_default.ensures refl

pub perform-requires-clause-asks : goal.perform-requires-clause-asks
perform-requires-clause-asks c =
    asked c.args.program.now c.parts-parts.ensures.typed c.args.code.now.functions
    c.requires.code c.args.p.now c.args.stack.now.slots c.args.memory.now.globals.items
    c.args.memory.now.heap c.requires.ready c.in-Some.row.now c.in-Some.ensures

pub perform-requires-clause-free : goal.perform-requires-clause-free
perform-requires-clause-free c =
    freed c.args.program.now c.parts-parts.ensures.typed c.args.code.now.functions
    c.requires.code c.args.p.now c.args.stack.now.slots c.args.memory.now.globals.items
    c.args.memory.now.heap c.requires.ready c.in-Some.row.now c.in-Some.ensures

pub perform-requires-clause-stands : goal.perform-requires-clause-stands
perform-requires-clause-stands c = record {
  room = room_left c.args.program.now c.parts-parts.ensures.typed c.args.code.now.functions
      c.requires.code c.args.p.now c.args.stack.now.slots c.args.memory.now.globals.items
      c.args.memory.now.heap c.requires.ready;
  none_made = c.requires.none_made;
  fits = c.requires.fits;
}

pub returns : goal.returns
returns c =
    acted c.args.program.now c.args.code.now.functions c.requires.code c.args.p.now
    c.args.stack.now c.args.memory.now c.requires.ready c.in-Some.row.now c.in-Some.ensures
    c.perform.result c.perform.new.p c.perform.new.stack c.perform.new.memory c.perform.ensures
