-- A heap as contracts see it.
use Rattle.std.specs.Prelude.{◌≡◌, ℕ, ◌≤◌, []}
use Rattle.std.specs.Vec.{vec_capacity}
use Rattle.hilti_heap.specs.Cells.{times_at, kept_in}
use Rattle.hilti_heap.specs.Kept.{Kept}
use Rattle.hilti_heap.specs.declared.heap.Heap.TheInside.{Inside}

abbrev pub seen : Inside → Kept
seen heap = record { next = heap.next; cells = heap.shelf.cells.items }

-- each serial is below `next` and stands once, and there is room for each object to be given back
pub record Sound (heap : Inside) : Type 0 where
  pub once : (s : ℕ) → times_at s heap.shelf.cells.items ≤ 1
  pub new : (s : ℕ) → heap.next ≤ s → times_at s heap.shelf.cells.items ≡ 0
  pub kept : heap.shelf.kept ≡ kept_in heap.shelf.cells.items
  pub room : kept_in heap.shelf.cells.items ≤ vec_capacity heap.shelf.dying
  pub dying : heap.shelf.dying.items ≡ []
