-- Sums and objects, when one place changes.
use Rattle.std.proofs.Common.{◌≡◌, ◌≢◌, ℕ, zero, suc, ◌+◌, ◌<◌, ◌≤◌, true, false, []}
use Rattle.std.proofs.Common.{◌∷◌, ◌++◌, length, refl, sym, ap, ◌∙◌, Option, Some, None}
use Rattle.std.proofs.Common.{arith}
use Rattle.std.proofs.lemmas.Bool.Decides.{nat_tests}
use Rattle.std.specs.Prelude.{slice_get, slice_set, nat_eq}
use Rattle.hilti_heap.specs.declared.cells.Cell.{Cell}
use Rattle.hilti_heap.specs.declared.object.Object.{Object}
use Rattle.hilti_heap.specs.Held.{is, part}
use Rattle.hilti_heap.specs.Cells.{Cells, over, count_at, times_at, kept_in}
use Rattle.hilti_heap.specs.Cells.{object_in, object_at, Stands}

pub is_self : (s : ℕ) → is s s ≡ 1
is_self s = grind (arith, nat_tests)

pub is_same : (s r : ℕ) → s ≡ r → is s r ≡ 1
is_same s r e = grind (arith, nat_tests)

pub is_other : (s r : ℕ) → s ≢ r → is s r ≡ 0
is_other s r e = grind (arith, nat_tests)

-- one place changes
pub over_set : (f : Cell → ℕ) (cells : Cells) (p : ℕ) (old new : Option Cell)
    → slice_get cells p ≡ Some old
    → over f (slice_set cells p new) + part f old ≡ over f cells + part f new
over_set f [] p old new e = absurd (cc)
over_set f (x ∷ cells) zero old new e = let d : part f x ≡ part f old = cc in omega arith
over_set f (x ∷ cells) (suc p) old new e = let d = over_set f cells p old new e in omega arith

-- one more place
pub over_more : (f : Cell → ℕ) (cells : Cells) (x : Option Cell)
    → over f (cells ++ x ∷ []) ≡ over f cells + part f x
over_more f [] x = omega arith
over_more f (y ∷ cells) x = let d = over_more f cells x in omega arith

-- one place is a part of the sum
pub over_at : (f : Cell → ℕ) (cells : Cells) (p : ℕ) (old : Option Cell)
    → slice_get cells p ≡ Some old → part f old ≤ over f cells
over_at f [] p old e = absurd (cc)
over_at f (x ∷ cells) zero old e = let d : part f x ≡ part f old = cc in omega arith
over_at f (x ∷ cells) (suc p) old e = let d = over_at f cells p old e in omega arith

part_zero : (s : ℕ) (x : Option Cell) → ((cell : Cell) → x ≡ Some cell → cell.serial ≡ s → ⊥)
    → part (λ cell. is s cell.serial) x ≡ 0
part_zero s None h = refl
part_zero s (Some cell) h = is_other s cell.serial (λ e. h cell refl (sym e))

-- an object that is at no place isn't there
pub none_stands : (s : ℕ) (cells : Cells) → ((p : ℕ) → p < length cells → Stands s cells p → ⊥)
    → times_at s cells ≡ 0
none_stands s [] h = refl
none_stands s (x ∷ cells) h =
    let here = part_zero s x
    (λ cell e d. h 0 (omega arith) (record { cell = cell; there = ap Some e; serial = d })) in
    let rest = none_stands s cells
    (λ p b at. h (suc p) (omega arith) (record {
      cell = at.cell;
      there = at.there;
      serial =
          at.serial;
    })) in
    omega arith

-- the place of the object s
module _ (s : ℕ) where
  pub stands_times : (cells : Cells) (p : ℕ) → Stands s cells p → 1 ≤ times_at s cells
  stands_times cells p at = let d = over_at (λ cell. is s cell.serial) cells p (Some at.cell)
      at.there in let e = is_same s at.cell.serial (sym at.serial) in omega arith

  -- an object that isn't there has no count
  pub no_count : (cells : Cells) → times_at s cells ≡ 0 → count_at s cells ≡ 0
  no_count [] e = refl
  no_count (None ∷ cells) e = let d = no_count cells (omega arith) in omega arith
  no_count (Some cell ∷ cells) e = let d = no_count cells (omega arith) in grind (arith, nat_tests)

  pub no_object : (cells : Cells) → times_at s cells ≡ 0 → object_at s cells ≡ None
  no_object [] e = refl
  no_object (None ∷ cells) e = no_object cells (omega arith)
  no_object (Some cell ∷ cells) e = let d = no_object cells (omega arith) in
      grind (arith, nat_tests)

  pub has_object : (cells : Cells) (o : Object) → object_at s cells ≡ Some o → 1 ≤ times_at s cells
  has_object [] o e = absurd (cc)
  has_object (None ∷ cells) o e = let d = has_object cells o e in omega arith
  has_object (Some cell ∷ cells) o e = let d : (e : object_at s cells ≡ Some o) → 1 ≤ times_at s
      cells = has_object cells o in grind (arith, nat_tests)

  -- the object at its place
  pub object_here : (cells : Cells) (p : ℕ) (at : Stands s cells p) → times_at s cells ≤ 1
      → object_at s cells ≡ Some at.cell.object
  object_here [] p at once = absurd (let e = at.there in cc)
  object_here (x ∷ cells) zero at once =
      let e : x ≡ Some at.cell = let e = at.there in cc in
      let d : nat_eq s at.cell.serial ≡ true = let d = at.serial in grind (arith, nat_tests) in
      rw (e, d)
  object_here (None ∷ cells) (suc p) at once =
      object_here cells p (record { cell = at.cell; there = at.there; serial = at.serial })
      (omega arith)
  object_here (Some cell ∷ cells) (suc p) at once =
      let next : Stands s cells p = record { cell = at.cell; there = at.there; serial = at.serial }
      in
      let more = stands_times cells p next in
      let d : nat_eq s cell.serial ≡ false = grind (arith, nat_tests) in
      rw d (object_here cells p next (omega arith))

  away : (x : Option Cell) (o : Option Object) → part (λ cell. is s cell.serial) x ≡ 0
      → object_in s x o ≡ o
  away None o e = refl
  away (Some cell) o e = grind (arith, nat_tests)

  -- another place changes
  pub object_other : (cells : Cells) (p : ℕ) (old new : Option Cell) → slice_get cells p ≡ Some old
      → part (λ cell. is s cell.serial) old ≡ 0 → part (λ cell. is s cell.serial) new ≡ 0
      → object_at s (slice_set cells p new) ≡ object_at s cells
  object_other [] p old new e a b = refl
  object_other (x ∷ cells) zero old new e a b = let d : x ≡ old = cc in
      away new (object_at s cells) b ∙ sym (rw d (away old (object_at s cells) a))
  object_other (x ∷ cells) (suc p) old new e a b =
      ap (object_in s x) (object_other cells p old new e a b)

-- one more place that is free
pub object_more : (s : ℕ) (cells : Cells) → object_at s (cells ++ None ∷ []) ≡ object_at s cells
object_more s [] = refl
object_more s (x ∷ cells) = ap (object_in s x) (object_more s cells)

pub get_more : (cells : Cells) (x : Option Cell)
    → slice_get (cells ++ x ∷ []) (length cells) ≡ Some x
get_more [] x = refl
get_more (y ∷ cells) x = get_more cells x

pub kept_below : (cells : Cells) → kept_in cells ≤ length cells
kept_below [] = omega arith
kept_below (None ∷ cells) = let d = kept_below cells in omega arith
kept_below (Some cell ∷ cells) = let d = kept_below cells in omega arith

pub set_here : (cells : Cells) (p : ℕ) (old new : Option Cell) → slice_get cells p ≡ Some old
    → slice_get (slice_set cells p new) p ≡ Some new
set_here [] p old new e = absurd (cc)
set_here (x ∷ cells) zero old new e = refl
set_here (x ∷ cells) (suc p) old new e = set_here cells p old new e
