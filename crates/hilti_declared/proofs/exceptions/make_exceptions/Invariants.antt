use Rattle.std.specs.Vec.Iter.{into_iter_items, into_iter_len}
use Rattle.hilti_declared.specs.Declaring.{exception_of}
use Rattle.hilti_declared.proofs.Handing.{Handed}
use Rattle.hilti_declared.proofs.exceptions.make_exceptions.Given as goal

abbrev pub invariant-loop-exception : goal.invariant-loop-exception
invariant-loop-exception l = Handed exception_of l.initial.exceptions l.exceptions l.yielded (into_iter_items l.exception-iterator) (into_iter_items l.initial.exception-iterator) (into_iter_len l.exception-iterator)
