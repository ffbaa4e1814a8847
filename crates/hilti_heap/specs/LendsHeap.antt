-- An object of a heap that is lent for writing.
use Rattle.std.specs.Prelude.{ℕ, Option}
use Rattle.std.specs.Borrow.{Lends, LendsIf, Fml, MutBor}
use Rattle.hilti_heap.specs.declared.object.Object.{Object}
use Rattle.hilti_heap.specs.contracts.object.Object.{the_row as object_row}
use Rattle.hilti_heap.specs.contracts.heap.Heap.{the_row}
use Rattle.hilti_heap.specs.Kept.{Kept}
use Rattle.hilti_heap.specs.Changed.{with_object}

abbrev pub LendsObject : MutBor Kept → ℕ → MutBor Object → Fml
LendsObject h s r = Lends the_row object_row h r (with_object h.now s)

abbrev pub LendsAt : MutBor Kept → ℕ → Option (MutBor Object) → Fml
LendsAt h s r = LendsIf the_row object_row h r (with_object h.now s) h.now
