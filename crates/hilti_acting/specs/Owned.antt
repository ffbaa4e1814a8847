-- What frames and globals hold, and heaps whose counts are that.
use Rattle.std.specs.Prelude.{◌≡◌, ℕ, ◌+◌, List, Option, Some, slice_get}
use Rattle.hilti_values.specs.declared.value.Value.{Value}
use Rattle.hilti_heap.specs.Held.{part, held, all_held}
use Rattle.hilti_heap.specs.Cells.{object_at}
use Rattle.hilti_heap.specs.Kept.{Kept}
use Rattle.hilti_heap.specs.Stands.{Fits}
use Rattle.hilti_heap.specs.declared.object.Object.{Object}
use Rattle.hilti_parts.specs.declared.parts.Variable.{Variable}
use Rattle.hilti_parts.specs.declared.parts.Variable.TheVariants as variables
use Rattle.hilti_rows.specs.declared.row.Source.{Source}
use Rattle.hilti_rows.specs.declared.row.Source.TheVariants as sources
use Rattle.hilti_stack.specs.Counts as stacks
use Rattle.hilti_stack.specs.Frames.{Frames}

-- how often frames, slots that are being made, and globals hold the object s
abbrev pub owned : Frames → List Value → ℕ → ℕ
owned f globals s = stacks.held (held s) f + all_held s globals

-- the counts are what these hold, and a value besides, which is on its way
pub record FitsWith (h : Kept) (f : Frames) (globals : List Value) (way : Option Value) : Type 0
  where
    pub is : Fits h (λ s. owned f globals s + part (held s) way)

-- the same objects, or fewer
pub record Fewer (a b : Kept) : Type 0 where
  pub next : b.next ≡ a.next
  pub objects : (s : ℕ) (o : Object) →
      object_at s b.cells ≡ Some o → object_at s a.cells ≡ Some o

-- the value of a variable
abbrev pub variable_at : List Value → List Value → Variable → Option Value
variable_at slots globals (variables.Slot n) = slice_get slots n
variable_at slots globals (variables.Global n) = slice_get globals n

-- a constant holds no object
abbrev pub IsFree : Source → Type 0
IsFree (sources.Constant value) = (s : ℕ) → held s value ≡ 0
IsFree s = Unit {0}
