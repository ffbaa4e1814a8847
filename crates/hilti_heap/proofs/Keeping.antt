-- Only held objects are kept, and held objects are.
use Rattle.std.proofs.Common.{◌≡◌, ℕ, suc, ◌≤◌, Bool, true, false, [], ◌∷◌, refl}
use Rattle.std.proofs.Common.{Option, Some, None, arith, ◌⊎◌, ⊎_elim, inl, inr}
use Rattle.std.proofs.lemmas.Bool.Decides.{nat_tests}
use Rattle.std.specs.Prelude.{nat_eq}
use Rattle.hilti_heap.specs.declared.cells.Cell.{Cell}
use Rattle.hilti_heap.specs.Held.{object_held}
use Rattle.hilti_heap.specs.Cells.{Cells, count_at, inner_at, times_at}
use Rattle.hilti_heap.specs.Stands.{HasHolder, IsKept, OnlyHeldAreKept, HeldAreKept}
use Rattle.hilti_heap.proofs.Places.{no_count, has_object, over_at}

zero_or : (n : ℕ) → (n ≡ 0) ⊎ (1 ≤ n)
zero_or n = grind arith

-- an object with a count is there
pub counted_there : (s : ℕ) (cells : Cells) → 1 ≤ count_at s cells → 1 ≤ times_at s cells
counted_there s cells one =
    let n = no_count s cells in
    ⊎_elim (λ (z : times_at s cells ≡ 0). let m = n z in absurd (omega arith))
    (λ (t : 1 ≤ times_at s cells). t)
    (zero_or (times_at s cells))

-- where objects hold the object s, one of them does
behind : (s : ℕ) (x : Option Cell) (cells : Cells) → HasHolder s cells → HasHolder s (x ∷ cells)
behind s x cells h = record { place = suc h.place; cell = h.cell; kept = h.kept; holds = h.holds }

pub holder_of : (s : ℕ) (cells : Cells) → 1 ≤ inner_at s cells → HasHolder s cells
holder_of s [] one = absurd (omega arith)
holder_of s (None ∷ cells) one = behind s None cells (holder_of s cells (omega arith))
holder_of s (Some cell ∷ cells) one =
    ⊎_elim
    (λ (z : object_held s cell.object ≡ 0). behind s (Some cell) cells (holder_of s cells (omega
    arith)))
    (λ (h : 1 ≤ object_held s cell.object). record {
      place = 0;
      cell = cell;
      kept = refl;
      holds
          = h;
    })
    (zero_or (object_held s cell.object))

pub holder_in : (s : ℕ) (cells : Cells) → HasHolder s cells → 1 ≤ inner_at s cells
holder_in s cells h =
    let d = over_at (λ cell. object_held s cell.object) cells h.place (Some h.cell) h.kept in
    let e = h.holds in
    omega arith

-- an object that stands somewhere is kept
other_first : (s : ℕ) (cell : Cell) (cells : Cells) → nat_eq s cell.serial ≡ false → IsKept s cells
    → IsKept s (Some cell ∷ cells)
other_first s cell cells d k = record { object = k.object; there = rw d k.there }

it_first : (s : ℕ) (cell : Cell) (cells : Cells) → nat_eq s cell.serial ≡ true
    → IsKept s (Some cell ∷ cells)
it_first s cell cells d = record { object = cell.object; there = rw d refl }

fewer : (s : ℕ) (cell : Cell) (cells : Cells) → nat_eq s cell.serial ≡ false
    → 1 ≤ times_at s (Some cell ∷ cells) → 1 ≤ times_at s cells
fewer s cell cells d one = grind (arith, nat_tests)

kept_in_front : (s : ℕ) (cell : Cell) (cells : Cells) (b : Bool) → nat_eq s cell.serial ≡ b
    → 1 ≤ times_at s (Some cell ∷ cells) → (1 ≤ times_at s cells → IsKept s cells)
    → IsKept s (Some cell ∷ cells)
kept_in_front s cell cells true d one more = it_first s cell cells d
kept_in_front s cell cells false d one more =
    other_first s cell cells d (more (fewer s cell cells d one))

pub is_kept : (s : ℕ) (cells : Cells) → 1 ≤ times_at s cells → IsKept s cells
is_kept s [] one = absurd (omega arith)
is_kept s (None ∷ cells) one =
    let k = is_kept s cells (omega arith) in
    record { object = k.object; there = k.there }
is_kept s (Some cell ∷ cells) one = kept_in_front s cell cells (nat_eq s cell.serial) refl one
    (is_kept s cells)

pub only_held : OnlyHeldAreKept
only_held h n fit s o there =
    let t = has_object s h.cells o there in
    let a = fit.alive s t in
    let c = fit.count s in
    ⊎_elim (λ (z : n s ≡ 0). inr (holder_of s h.cells (omega arith))) (λ (k : 1 ≤ n s). inl k)
    (zero_or (n s))

pub held_kept : HeldAreKept
held_kept h n fit s held =
    let c = fit.count s in
    let some : 1 ≤ count_at s h.cells =
    ⊎_elim (λ (k : 1 ≤ n s). omega arith)
    (λ (k : HasHolder s h.cells). let i = holder_in s h.cells k in omega arith)
    held in
    is_kept s h.cells (counted_there s h.cells some)
