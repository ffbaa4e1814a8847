-- What instructions ask of the objects on a heap.
use Rattle.std.specs.Prelude.{◌≡◌, ℕ, ◌<◌, length, Some}
use Rattle.hilti_values.specs.declared.value.Value.{Value}
use Rattle.hilti_values.specs.declared.value.Value.TheVariants.{Ref, Null}
use Rattle.hilti_heap.specs.declared.object.Object.{Object}
use Rattle.hilti_heap.specs.declared.object.Object.TheVariants.{Struct}
use Rattle.hilti_heap.specs.Cells.{object_at}
use Rattle.hilti_heap.specs.Held.{held}
use Rattle.hilti_heap.specs.Kept.{Kept, Covers}

-- the object is a struct with such a field
abbrev pub HasFieldIn : ℕ → Object → Type 0
HasFieldIn at (Struct fields) = at < length fields
HasFieldIn at _ = ⊥

-- a struct with such a field is on the heap
pub record HasFieldAt (h : Kept) (at serial : ℕ) : Type 0 where
  pub object : Object
  pub there : object_at serial h.cells ≡ Some object
  pub field : HasFieldIn at object

-- the value is Null, or a reference to such a struct
abbrev pub HasField : Kept → ℕ → Value → Type 0
HasField h at (Ref s) = HasFieldAt h at s
HasField h at Null = Unit {0}
HasField h at _ = ⊥

-- others hold what a value holds
abbrev pub AreHeld : Kept → Value → Type 0
AreHeld h v = Covers h (λ s. held s v)
