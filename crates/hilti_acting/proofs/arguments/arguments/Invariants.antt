use Rattle.std.proofs.Common.{◌≡◌, ◌++◌, map, take, None}
use Rattle.hilti_stack.specs.Frames.{with_made}
use Rattle.hilti_effects.specs.Operands.{value_at}
use Rattle.hilti_acting.specs.Owned.{FitsWith, Fewer}
use Rattle.hilti_acting.proofs.arguments.arguments.Given as goal

-- the arguments so far are made
abbrev pub invariant-loop-source : goal.invariant-loop-source
invariant-loop-source l = record {
  stack : l.stack ≡ with_made l.fn.stack (l.fn.stack.made
      ++ map (value_at l.fn.stack.slots l.fn.memory.globals.items) (take l.source-index l.sources));
  globals : l.memory.globals.items ≡ l.fn.memory.globals.items;
  fewer : Fewer l.fn.memory.heap l.memory.heap;
  fits : FitsWith l.memory.heap l.stack l.memory.globals.items None;
}
