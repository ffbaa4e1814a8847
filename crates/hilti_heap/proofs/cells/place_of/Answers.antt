use Rattle.std.proofs.Common.{arith}
use Rattle.hilti_heap.proofs.Places.{none_stands}
use Rattle.hilti_heap.proofs.cells.place_of.Goals as goal

pub returns-clause-none : goal.returns-clause-none
returns-clause-none c = none_stands c.args.at.now c.args.cells.now
    (λ k below at. c.loop-place.invariant k (omega arith) (rw c.serial-serial.ensures at))
