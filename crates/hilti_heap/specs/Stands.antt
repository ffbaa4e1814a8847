-- A heap gives objects back, and stands for stores that never do. Its counts fit what others hold.
use Rattle.std.specs.Prelude.{◌≡◌, ℕ, ◌+◌, ◌≤◌, ◌⊎◌, Option, Some, slice_get}
use Rattle.std.specs.Prelude.{Result, Ok, Err}
use Rattle.hilti_base.specs.declared.refusal.Raise.{Raise}
use Rattle.hilti_values.specs.declared.value.Value.{Value}
use Rattle.hilti_values.specs.declared.value.Value.TheVariants.{Ref}
use Rattle.hilti_heap.specs.declared.cells.Cell.{Cell}
use Rattle.hilti_heap.specs.declared.fault.OpFault.{OpFault}
use Rattle.hilti_heap.specs.declared.fault.OpFault.TheVariants as fault
use Rattle.hilti_heap.specs.declared.object.Object.{Object}
use Rattle.hilti_heap.specs.Cells.{Cells, count_at, inner_at, object_at}
use Rattle.hilti_heap.specs.Held.{part, held, object_held}
use Rattle.hilti_heap.specs.Kept.{Kept}
use Rattle.hilti_heap.specs.Shelves.{Alive}
use Rattle.hilti_heap.specs.Stores.{Store, Answer, Answer.Done, Answer.Raised, added}

-- both have the same next serial, and each object that the heap keeps is the store's
pub record StandsFor (h : Kept) (st : Store) : Type 0 where
  pub next : h.next ≡ st.next
  pub same : (s : ℕ) (o : Object) → object_at s h.cells ≡ Some o → st.object s ≡ Some o

-- the counts fit what others hold: each is n s beside what kept objects hold, and an object that is
-- kept has a holder
pub record Fits (h : Kept) (n : ℕ → ℕ) : Type 0 where
  pub count : (s : ℕ) → count_at s h.cells ≡ n s + inner_at s h.cells
  pub alive : (s : ℕ) → Alive s h.cells

-- a kept object holds the object s
pub record HasHolder (s : ℕ) (cells : Cells) : Type 0 where
  pub place : ℕ
  pub cell : Cell
  pub kept : slice_get cells place ≡ Some (Some cell)
  pub holds : 1 ≤ object_held s cell.object

-- where the counts fit, an object that is kept is held by others or by an object that is kept
abbrev pub OnlyHeldAreKept : Type 0
OnlyHeldAreKept = (h : Kept) (n : ℕ → ℕ) → Fits h n →
    (s : ℕ) (o : Object) → object_at s h.cells ≡ Some o → (1 ≤ n s) ⊎ HasHolder s h.cells

-- and what others or kept objects hold is kept
pub record IsKept (s : ℕ) (cells : Cells) : Type 0 where
  pub object : Object
  pub there : object_at s cells ≡ Some object

abbrev pub HeldAreKept : Type 0
HeldAreKept = (h : Kept) (n : ℕ → ℕ) → Fits h n →
    (s : ℕ) → (1 ≤ n s) ⊎ HasHolder s h.cells → IsKept s h.cells

-- an instruction is done from this store
pub record GoesTo (does : Store → Answer) (result : Option Value) (b : Kept) (st : Store) :
    Type 0 where
  pub store : Store
  pub so : does st ≡ Done result store
  pub stands : StandsFor b store

-- it is done from each store that the heap stands for, and whatever others held, they hold the
-- result besides
pub record Goes (does : Store → Answer) (result : Option Value) (a b : Kept) : Type 0 where
  pub each : (st : Store) → StandsFor a st → GoesTo does result b st
  pub fits : (n : ℕ → ℕ) → Fits a n → Fits b (λ s. n s + part (held s) result)

-- it raises from each such store, and nothing changes
pub record Refuses (does : Store → Answer) (r : Raise) (a b : Kept) : Type 0 where
  pub same : b ≡ a
  pub each : (st : Store) → StandsFor a st → does st ≡ Raised r

-- what an instruction's call answered and did is what the instruction means
abbrev pub Meets : (Store → Answer) → Result (Option Value) OpFault → Kept → Kept → Type 0
Meets does (Ok result) a b = Goes does result a b
Meets does (Err (fault.Raise r)) a b = Refuses does r a b
Meets does (Err fault.NoMemory) a b = Unit {0}

-- a new object, which the value alone names
pub record Creates (o : Object) (v : Value) (a b : Kept) : Type 0 where
  pub names : v ≡ Ref a.next
  pub next : b.next ≡ a.next + 1
  pub each : (st : Store) → StandsFor a st → StandsFor b (added st o)
  pub fits : (n : ℕ → ℕ) → Fits a (λ s. n s + object_held s o) → Fits b (λ s. n s + held s v)
