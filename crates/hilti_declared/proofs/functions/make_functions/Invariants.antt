use Rattle.std.specs.Vec.Iter.{into_iter_items, into_iter_len}
use Rattle.hilti_declared.proofs.Blocks.{Given as Handed}
use Rattle.hilti_declared.proofs.functions.make_functions.Given as goal

abbrev pub invariant-loop-function : goal.invariant-loop-function
invariant-loop-function l = Handed l.functions (into_iter_items l.function-iterator) l.fn.declared l.blocks.items l.fn.blocks.items (into_iter_len l.function-iterator)
