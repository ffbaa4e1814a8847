use Rattle.std.specs.Vec.Iter.{into_iter_items, into_iter_len}
use Rattle.hilti_declared.specs.Globals.{global_of}
use Rattle.hilti_declared.proofs.Handing.{Handed}
use Rattle.hilti_declared.proofs.globals.make_globals.Given as goal

abbrev pub invariant-loop-global : goal.invariant-loop-global
invariant-loop-global l = Handed (global_of l.modules l.table) l.initial.globals l.globals l.yielded (into_iter_items l.global-iterator) (into_iter_items l.initial.global-iterator) (into_iter_len l.global-iterator)
