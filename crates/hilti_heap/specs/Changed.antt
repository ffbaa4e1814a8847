-- A heap with another object in the place of one.
use Rattle.std.specs.Prelude.{ℕ, nat_eq, [], ◌∷◌, Option, Some, None, if◌then◌else◌}
use Rattle.hilti_heap.specs.declared.object.Object.{Object}
use Rattle.hilti_heap.specs.declared.cells.Cell.{Cell}
use Rattle.hilti_heap.specs.Cells.{Cells}
use Rattle.hilti_heap.specs.Kept.{Kept}

-- another object at a place
abbrev pub with_in : Option Cell → Object → Option Cell
with_in None w = None
with_in (Some cell) w = Some (record cell { object = w })

-- another object in the place of the object s
abbrev pub swap_in : ℕ → Object → Option Cell → Option Cell
swap_in s w None = None
swap_in s w (Some cell) = Some (if nat_eq s cell.serial then record cell { object = w } else cell)

abbrev pub swapped : ℕ → Object → Cells → Cells
swapped s w [] = []
swapped s w (place ∷ cells) = swap_in s w place ∷ swapped s w cells

abbrev pub with_object : Kept → ℕ → Object → Kept
with_object h s w = record h { cells = swapped s w h.cells }
