-- What a heap does with its holders, place by place.
use Rattle.std.specs.Prelude.{◌≡◌, ℕ, ◌+◌, ◌≤◌, ◌^◌, List, sum_by, Some, None, slice_get}
use Rattle.std.specs.Vec.{vec_len, vec_capacity}
use Rattle.hilti_heap.specs.Held.{is, object_held}
use Rattle.hilti_heap.specs.Cells.{Cells, Stands, over, count_at, inner_at, times_at, kept_in}
use Rattle.hilti_heap.specs.Cells.{object_at}
use Rattle.hilti_heap.specs.declared.object.Object.{Object}
use Rattle.hilti_heap.specs.declared.cells.Cell.{Cell}
use Rattle.hilti_heap.specs.declared.shelf.Shelf.{Shelf}

-- how often objects that are given back still hold the object s
abbrev pub dying_held : ℕ → List Object → ℕ
dying_held s objects = sum_by (object_held s) objects

-- how often objects hold the object s, kept ones and those that are given back
abbrev pub within : ℕ → Shelf → ℕ
within s shelf = inner_at s shelf.cells.items + dying_held s shelf.dying.items

-- so many holders can go, of each object
pub record Ready (a : Shelf) (lost : ℕ → ℕ) : Type 0 where
  pub enough : (s : ℕ) → lost s ≤ count_at s a.cells.items
  pub once : (s : ℕ) → times_at s a.cells.items ≤ 1
  pub kept : a.kept ≡ kept_in a.cells.items
  pub room : kept_in a.cells.items + vec_len a.dying ≤ vec_capacity a.dying

-- the object at a place can lose a holder
pub record CanLower (a : Shelf) (place : ℕ) : Type 0 where
  pub serial : ℕ
  pub there : Stands serial a.cells.items place
  pub ready : Ready a (λ s. is s serial)

-- no number counts so many holders more, of some object, where it stands once
pub record Overflows (a : Shelf) (gained : ℕ → ℕ) : Type 0 where
  pub serial : ℕ
  pub over : times_at serial a.cells.items ≤ 1 →
      2 ^ 64 ≤ count_at serial a.cells.items + gained serial

-- an object that is there has a holder
abbrev pub Alive : ℕ → Cells → Type 0
Alive s cells = 1 ≤ times_at s cells → 1 ≤ count_at s cells

-- so many holders went, of each object; objects without holders are given back
pub record Sheds (a b : Shelf) (lost : ℕ → ℕ) : Type 0 where
  pub count : (s : ℕ) → count_at s b.cells.items + lost s ≡ count_at s a.cells.items
  pub within : (s : ℕ) → within s b ≡ within s a
  pub objects : (s : ℕ) (o : Object) →
      object_at s b.cells.items ≡ Some o → object_at s a.cells.items ≡ Some o
  pub times : (s : ℕ) → times_at s b.cells.items ≤ times_at s a.cells.items
  pub alive : (s : ℕ) → Alive s a.cells.items → Alive s b.cells.items
  pub kept : a.kept ≡ kept_in a.cells.items → b.kept ≡ kept_in b.cells.items
  pub size : kept_in b.cells.items + vec_len b.dying ≡ kept_in a.cells.items + vec_len a.dying
  pub capacity : vec_capacity b.dying ≡ vec_capacity a.dying

-- the objects that are given back let go what they held: what others hold stays, count by count
pub record LetsGo (a b : Shelf) : Type 0 where
  pub count : (s : ℕ) →
      count_at s b.cells.items + within s a ≡ count_at s a.cells.items + within s b
  pub objects : (s : ℕ) (o : Object) →
      object_at s b.cells.items ≡ Some o → object_at s a.cells.items ≡ Some o
  pub alive : (s : ℕ) → Alive s a.cells.items → Alive s b.cells.items
  pub times : (s : ℕ) → times_at s b.cells.items ≤ times_at s a.cells.items
  pub ready : Ready b (λ s. within s b)

-- a place is free, and there is room for one object more
pub record Opens (a b : Shelf) (place : ℕ) : Type 0 where
  pub free : slice_get b.cells.items place ≡ Some None
  pub sums : (f : Cell → ℕ) → over f b.cells.items ≡ over f a.cells.items
  pub objects : (s : ℕ) → object_at s b.cells.items ≡ object_at s a.cells.items
  pub room : kept_in b.cells.items + 1 + vec_len b.dying ≤ vec_capacity b.dying

-- nothing else changes, and no room is lost
pub record KeepsRest (a b : Shelf) : Type 0 where
  pub dying : b.dying.items ≡ a.dying.items
  pub length : vec_len b.dying ≡ vec_len a.dying
  pub capacity : vec_capacity a.dying ≤ vec_capacity b.dying
  pub kept : b.kept ≡ a.kept

-- these objects are there
pub record Known (a : Shelf) (gained : ℕ → ℕ) : Type 0 where
  pub each : (s : ℕ) → 1 ≤ gained s → 1 ≤ times_at s a.cells.items

-- only counts change
pub record SameBut (a b : Shelf) : Type 0 where
  pub inner : (s : ℕ) → inner_at s b.cells.items ≡ inner_at s a.cells.items
  pub objects : (s : ℕ) → object_at s b.cells.items ≡ object_at s a.cells.items
  pub times : (s : ℕ) → times_at s b.cells.items ≡ times_at s a.cells.items
  pub size : kept_in b.cells.items ≡ kept_in a.cells.items

-- so many holders came, of each object
pub record Gains (a b : Shelf) (gained : ℕ → ℕ) : Type 0 where
  pub count : (s : ℕ) → count_at s b.cells.items ≡ count_at s a.cells.items + gained s
  pub same : SameBut a b
