-- A heap as contracts see it: the next serial, and the objects with their serials and counts.
use Rattle.std.specs.Prelude.{◌≡◌, ℕ, ◌+◌, ◌≤◌, ◌^◌, nat_eq, Some, if◌then◌else◌}
use Rattle.hilti_heap.specs.Held.{object_held}
use Rattle.hilti_heap.specs.Cells.{Cells, count_at, inner_at, times_at, object_at}
use Rattle.hilti_heap.specs.Shelves.{Alive}
use Rattle.hilti_heap.specs.declared.object.Object.{Object}

pub record Kept : Type 0 where
  pub next : ℕ
  pub cells : Cells

-- f with another value at s
abbrev pub with_at : {X : Type 0} → (ℕ → X) → ℕ → X → ℕ → X
with_at f s x q = if nat_eq q s then x else f q

-- the counts of the objects cover so many holders beside the objects themselves
pub record Covers (a : Kept) (m : ℕ → ℕ) : Type 0 where
  pub each : (s : ℕ) → m s + inner_at s a.cells ≤ count_at s a.cells

-- others than objects lost and gained so many holders, of each object; what had a holder has one
pub record Moves (a b : Kept) (lost gained : ℕ → ℕ) : Type 0 where
  pub share : (s : ℕ) →
      count_at s b.cells + inner_at s a.cells + lost s
      ≡ count_at s a.cells + inner_at s b.cells + gained s
  pub alive : (s : ℕ) → Alive s a.cells → Alive s b.cells

-- a new object without a holder
pub record Makes (a b : Kept) (serial : ℕ) (o : Object) : Type 0 where
  pub is : serial ≡ a.next
  pub next : b.next ≡ a.next + 1
  pub objects : (s : ℕ) → object_at s b.cells ≡ with_at (λ s. object_at s a.cells) serial (Some o) s
  pub count : (s : ℕ) → count_at s b.cells ≡ count_at s a.cells
  pub inner : (s : ℕ) → inner_at s b.cells ≡ inner_at s a.cells + object_held s o
  pub times : (s : ℕ) → times_at s b.cells ≡ times_at s a.cells + (if nat_eq s serial then 1 else 0)

-- objects are held by others so many times more
pub record Holds (a b : Kept) (gained : ℕ → ℕ) : Type 0 where
  pub next : b.next ≡ a.next
  pub objects : (s : ℕ) → object_at s b.cells ≡ object_at s a.cells
  pub count : (s : ℕ) → count_at s b.cells ≡ count_at s a.cells + gained s
  pub inner : (s : ℕ) → inner_at s b.cells ≡ inner_at s a.cells
  pub times : (s : ℕ) → times_at s b.cells ≡ times_at s a.cells

-- objects are held by others so many times less, and those that nothing holds are given back
pub record Releases (a b : Kept) (lost : ℕ → ℕ) : Type 0 where
  pub next : b.next ≡ a.next
  pub objects : (s : ℕ) (o : Object) →
      object_at s b.cells ≡ Some o → object_at s a.cells ≡ Some o
  pub moves : Moves a b lost (λ s. 0)
  pub covers : Covers b (λ s. 0)

-- the object s is another one
pub record Changes (a b : Kept) (s : ℕ) (old new : Object) : Type 0 where
  pub next : b.next ≡ a.next
  pub objects : (q : ℕ) → object_at q b.cells ≡ with_at (λ q. object_at q a.cells) s (Some new) q
  pub count : (q : ℕ) → count_at q b.cells ≡ count_at q a.cells
  pub inner : (q : ℕ) →
      inner_at q b.cells + object_held q old ≡ inner_at q a.cells + object_held q new
  pub times : (q : ℕ) → times_at q b.cells ≡ times_at q a.cells

-- these objects are there
pub record AreKept (a : Kept) (m : ℕ → ℕ) : Type 0 where
  pub each : (s : ℕ) → 1 ≤ m s → 1 ≤ times_at s a.cells

-- objects stay as they are, and so does who is held by them; counts may have risen
pub record KeepsObjects (a b : Kept) : Type 0 where
  pub next : b.next ≡ a.next
  pub objects : (s : ℕ) → object_at s b.cells ≡ object_at s a.cells
  pub inner : (s : ℕ) → inner_at s b.cells ≡ inner_at s a.cells
  pub times : (s : ℕ) → times_at s b.cells ≡ times_at s a.cells

-- no number counts so many holders more, of some object
pub record Overflows (a : Kept) (gained : ℕ → ℕ) : Type 0 where
  pub serial : ℕ
  pub over : 2 ^ 64 ≤ count_at serial a.cells + gained serial
