-- The places of a heap: each is free, or has an object with its serial and its count.
use Rattle.std.specs.Prelude.{◌≡◌, ℕ, ◌+◌, nat_eq, List, [], ◌∷◌, Option, Some, None, slice_get}
use Rattle.std.specs.Prelude.{if◌then◌else◌}
use Rattle.hilti_heap.specs.Held.{is, part, object_held}
use Rattle.hilti_heap.specs.declared.object.Object.{Object}
use Rattle.hilti_heap.specs.declared.cells.Cell.{Cell}

abbrev pub Cells : Type 0
Cells = List (Option Cell)

-- a sum over the objects
abbrev pub over : (Cell → ℕ) → Cells → ℕ
over f [] = 0
over f (place ∷ cells) = part f place + over f cells

abbrev pub count_in : ℕ → Cell → ℕ
count_in s cell = if nat_eq s cell.serial then cell.count else 0

-- the count of the object s; 0 where no object has this serial
abbrev pub count_at : ℕ → Cells → ℕ
count_at s = over (count_in s)

-- how often the objects hold the object s
abbrev pub inner_at : ℕ → Cells → ℕ
inner_at s = over (λ cell. object_held s cell.object)

-- how many objects have the serial s
abbrev pub times_at : ℕ → Cells → ℕ
times_at s = over (λ cell. is s cell.serial)

-- how many objects there are
abbrev pub kept_in : Cells → ℕ
kept_in = over (λ cell. 1)

-- the object s
abbrev pub object_in : ℕ → Option Cell → Option Object → Option Object
object_in s None other = other
object_in s (Some cell) other = if nat_eq s cell.serial then Some cell.object else other

abbrev pub object_at : ℕ → Cells → Option Object
object_at s [] = None
object_at s (place ∷ cells) = object_in s place (object_at s cells)

-- this cell is at this place
abbrev pub IsCell : Cells → ℕ → Cell → Type 0
IsCell cells place cell = slice_get cells place ≡ Some (Some cell)

-- an object without a holder
abbrev pub new_cell : ℕ → Object → Cell
new_cell serial o = record { serial = serial; count = 0; object = o }

-- the object s is at this place
pub record Stands (s : ℕ) (cells : Cells) (place : ℕ) : Type 0 where
  pub cell : Cell
  pub there : slice_get cells place ≡ Some (Some cell)
  pub serial : cell.serial ≡ s
