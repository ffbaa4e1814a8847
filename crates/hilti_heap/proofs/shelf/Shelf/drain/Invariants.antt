use Rattle.std.proofs.Common.{◌+◌}
use Rattle.std.specs.Vec.{vec_len}
use Rattle.hilti_heap.specs.Cells.{kept_in}
use Rattle.hilti_heap.specs.Shelves.{LetsGo}
use Rattle.hilti_heap.proofs.shelf.Shelf.drain.Given as goal

abbrev pub invariant-each : goal.invariant-each
invariant-each l = LetsGo l.fn.self l.self

abbrev pub decreases-each : goal.decreases-each
decreases-each l = kept_in l.self.cells.items + vec_len l.self.dying
