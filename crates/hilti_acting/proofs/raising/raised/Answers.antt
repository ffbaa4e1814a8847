use Rattle.std.proofs.Common.{refl, [], sym}
use Rattle.std.proofs.lemmas.List.{append-nil}
use Rattle.std.proofs.lemmas.List.Elements.{recursion_from_All}
use Rattle.hilti_acting.specs.Unwinding.{IsRaiserFrame}
use Rattle.hilti_acting.proofs.Counts.{fewer_same}
use Rattle.hilti_acting.proofs.Unwinding.{nearest, caller_may, passes_on, takes, slot_there}
use Rattle.hilti_acting.proofs.raising.raised.Goals as goal

pub frames-init : goal.frames-init
frames-init c = record {
  ended = [];
  below = sym (append-nil c.args.stack.now.below);
  not_caught = tt;
  callers = recursion_from_All (IsRaiserFrame c.args.program.now) c.args.stack.now.below
      c.requires.callers;
  globals = refl;
  fewer = fewer_same c.args.memory.now.heap;
  fits = c.requires.fits;
  none_made = c.requires.none_made;
}

pub leave_top-requires-clause-caller : goal.leave_top-requires-clause-caller
leave_top-requires-clause-caller c =
    nearest c.args.program.now c.frames.stack c.frames.invariant.callers

pub handler-requires-clause-block : goal.handler-requires-clause-block
handler-requires-clause-block c =
    (caller_may c.args.program.now c.frames.stack c.leave_top.new.stack c.in-Some.p
    c.frames.invariant.callers c.in-Some.ensures.leaves).block

pub take_raise-requires-clause-there : goal.take_raise-requires-clause-there
take_raise-requires-clause-there c =
    slot_there c.args.program.now c.in-Some.p c.leave_top.new.stack.slots c.in-Some-handler.handler
    (caller_may c.args.program.now c.frames.stack c.leave_top.new.stack c.in-Some.p
    c.frames.invariant.callers c.in-Some.ensures.leaves)
    c.in-Some-handler.ensures.typed

pub returns-in-Some-handler-clause-on : goal.returns-in-Some-handler-clause-on
returns-in-Some-handler-clause-on c =
    takes c.args.program.now c.parts-parts.ensures.tree c.args.exception c.args.text
    c.args.stack.now c.args.memory.now c.frames.stack c.frames.memory c.frames.invariant
    c.in-Some.p c.leave_top.new.stack c.in-Some.ensures.leaves c.handler.result
    c.handler.ensures.first c.in-Some-handler.handler c.leave_top.new.memory
    c.take_raise.new.memory c.take_raise.new.stack c.take_raise.result c.in-Some-handler.is
    c.take_raise.ensures.position c.take_raise.ensures.stack c.leave_top.ensures.globals
    c.take_raise.ensures.globals c.leave_top.ensures.fewer c.take_raise.ensures.fewer
    c.take_raise.ensures.fits

pub frames-preserved : goal.frames-preserved
frames-preserved c =
    passes_on c.args.program.now c.parts-parts.ensures.tree c.args.exception c.args.text
    c.args.stack.now c.args.memory.now c.frames.stack c.frames.memory c.frames.invariant
    c.in-Some.p c.leave_top.new.stack c.in-Some.ensures.leaves c.handler.result
    c.handler.ensures.first c.leave_top.new.memory c.in_default-handler.is
    c.leave_top.ensures.globals
    c.leave_top.ensures.fewer c.in-Some.ensures.fits
