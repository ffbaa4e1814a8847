-- Another object in the place of one.
use Rattle.std.proofs.Common.{◌≡◌, ◌≢◌, ℕ, zero, suc, ◌+◌, ◌≤◌, Bool, true, false, []}
use Rattle.std.proofs.Common.{◌∷◌, refl, sym, ap, subst, ◌∙◌, Option, Some, None, arith}
use Rattle.std.proofs.Common.{cond, ⊎_elim}
use Rattle.std.proofs.lemmas.Bool.Decides.{nat_tests}
use Rattle.std.specs.Prelude.{slice_set, nat_eq}
use Rattle.hilti_heap.specs.declared.cells.Cell.{Cell}
use Rattle.hilti_heap.specs.declared.object.Object.{Object}
use Rattle.hilti_heap.specs.declared.heap.Heap.TheInside.{Inside}
use Rattle.hilti_heap.specs.Held.{is, part, object_held}
use Rattle.hilti_heap.specs.Cells.{Cells, over, count_in, inner_at, times_at, kept_in}
use Rattle.hilti_heap.specs.Cells.{object_in, object_at, Stands}
use Rattle.hilti_heap.specs.Kept.{Kept, with_at, Changes}
use Rattle.std.specs.Vec.{with_item}
use Rattle.hilti_heap.specs.Heaps.{seen, Sound}
use Rattle.hilti_heap.proofs.Lowering.{apart}
use Rattle.hilti_heap.proofs.Heaping.{with_here, with_there, is_zero}
use Rattle.hilti_heap.specs.Changed.{with_in, swap_in, swapped, with_object}
use Rattle.hilti_heap.proofs.Places.{is_same, stands_times}

module _ (s : ℕ) (w : Object) where
  -- an object that isn't there isn't replaced
  none_swapped : (cells : Cells) → times_at s cells ≡ 0 → swapped s w cells ≡ cells
  none_swapped [] z = refl
  none_swapped (None ∷ cells) z = ap (λ cells. None ∷ cells) (none_swapped cells (omega arith))
  none_swapped (Some cell ∷ cells) z =
      let d : nat_eq s cell.serial ≡ false = grind (arith, nat_tests) in
      let e = none_swapped cells (omega arith) in
      rw (d, e) refl

  pub swapped_is : (cells : Cells) (p : ℕ) (at : Stands s cells p) → times_at s cells ≤ 1 →
      slice_set cells p (Some (record at.cell { object = w })) ≡ swapped s w cells
  swapped_is [] p at once = absurd (let e = at.there in cc)
  swapped_is (x ∷ cells) zero at once =
      let e : x ≡ Some at.cell = let e = at.there in cc in
      let d : nat_eq s at.cell.serial ≡ true = let d = at.serial in grind (arith, nat_tests) in
      let i = is_same s at.cell.serial (sym at.serial) in
      let t : times_at s (x ∷ cells) ≡ is s at.cell.serial + times_at s cells =
      ap (λ x. part (λ cell. is s cell.serial) x + times_at s cells) e in
      let z = none_swapped cells (omega arith) in
      rw (e, d, z) refl
  swapped_is (None ∷ cells) (suc p) at once =
      ap (λ cells. None ∷ cells)
      (swapped_is cells p (record { cell = at.cell; there = at.there; serial = at.serial }) (omega
      arith))
  swapped_is (Some cell ∷ cells) (suc p) at once =
      let next : Stands s cells p = record { cell = at.cell; there = at.there; serial = at.serial }
      in
      let more = stands_times s cells p next in
      let d : nat_eq s cell.serial ≡ false = grind (arith, nat_tests) in
      rw d (ap (λ cells. Some cell ∷ cells) (swapped_is cells p next (omega arith)))

  -- sums that don't look at objects stay
  pub over_swapped : (f : Cell → ℕ) →
      ((cell : Cell) (o : Object) → f (record cell { object = o }) ≡ f cell) → (cells : Cells) →
      over f (swapped s w cells) ≡ over f cells
  over_swapped f e [] = refl
  over_swapped f e (None ∷ cells) = let d = over_swapped f e cells in omega arith
  over_swapped f e (Some cell ∷ cells) = let d = over_swapped f e cells in let x =
      one (nat_eq s cell.serial) in omega arith
    where
      one : (b : Bool) → f (cond b (record cell { object = w }) cell) ≡ f cell
      one true = e cell w
      one false = refl

  inner_step : (cell : Cell) (cells : Cells) (o : Object) (q : ℕ) (b : Bool)
      → nat_eq s cell.serial ≡ b → object_at s (Some cell ∷ cells) ≡ Some o
      → times_at s (Some cell ∷ cells) ≤ 1
      → (object_at s cells ≡ Some o
      → inner_at q (swapped s w cells) + object_held q o ≡ inner_at q cells + object_held q w)
      → inner_at q (swapped s w (Some cell ∷ cells)) + object_held q o
      ≡ inner_at q (Some cell ∷ cells) + object_held q w
  inner_step cell cells o q true d e once more =
      let k : Some cell.object ≡ Some o = rw d at e in
      let j : object_held q cell.object ≡ object_held q o = ap (part (object_held q)) k in
      let i : is s cell.serial ≡ 1 = grind (arith, nat_tests) in
      let z = ap (inner_at q) (none_swapped cells (omega arith)) in
      rw d (omega arith)
  inner_step cell cells o q false d e once more =
      let h = more (rw d at e) in
      rw d (omega arith)

  pub swapped_inner : (cells : Cells) (o : Object) → object_at s cells ≡ Some o
      → times_at s cells ≤ 1
      → (q : ℕ)
      → inner_at q (swapped s w cells) + object_held q o ≡ inner_at q cells + object_held q w
  swapped_inner [] o e once q = absurd (cc)
  swapped_inner (None ∷ cells) o e once q = let d = swapped_inner cells o e (omega arith) q in
      omega arith
  swapped_inner (Some cell ∷ cells) o e once q =
      inner_step cell cells o q (nat_eq s cell.serial) refl e once
      (λ e. swapped_inner cells o e (omega arith) q)

  other_in : (q : ℕ) (cell : Cell) (rest : Option Object) → q ≢ s
      → object_in q (swap_in s w (Some cell)) rest ≡ object_in q (Some cell) rest
  other_in q cell rest n = one (nat_eq s cell.serial) refl
    where
      one : (b : Bool) → nat_eq s cell.serial ≡ b
          → object_in q (swap_in s w (Some cell)) rest ≡ object_in q (Some cell) rest
      one true d = let f : nat_eq q cell.serial ≡ false = grind (arith, nat_tests) in rw (d, f) refl
      one false d = rw d refl

  object_elsewhere : (cells : Cells) (q : ℕ) → q ≢ s
      → object_at q (swapped s w cells) ≡ object_at q cells
  object_elsewhere [] q n = refl
  object_elsewhere (None ∷ cells) q n = object_elsewhere cells q n
  object_elsewhere (Some cell ∷ cells) q n =
      ap (object_in q (swap_in s w (Some cell))) (object_elsewhere cells q n) ∙
      other_in q cell (object_at q cells) n

  here_step : (cell : Cell) (cells : Cells) (o : Object) (b : Bool) → nat_eq s cell.serial ≡ b
      → object_at s (Some cell ∷ cells) ≡ Some o
      → (object_at s cells ≡ Some o → object_at s (swapped s w cells) ≡ Some w)
      → object_at s (swapped s w (Some cell ∷ cells)) ≡ Some w
  here_step cell cells o true d e more = rw (d, d) refl
  here_step cell cells o false d e more = rw (d, d) (more (rw d at e))

  object_swapped : (cells : Cells) (o : Object) → object_at s cells ≡ Some o
      → object_at s (swapped s w cells) ≡ Some w
  object_swapped [] o e = absurd (cc)
  object_swapped (None ∷ cells) o e = object_swapped cells o e
  object_swapped (Some cell ∷ cells) o e =
      here_step cell cells o (nat_eq s cell.serial) refl e (object_swapped cells o)

  pub swapped_object : (cells : Cells) (o : Object) → object_at s cells ≡ Some o → (q : ℕ)
      → object_at q (swapped s w cells) ≡ with_at (λ q. object_at q cells) s (Some w) q
  swapped_object cells o e q = ⊎_elim
      (λ (z : is q s ≡ 0). let n : q ≢ s = is_zero q s z in object_elsewhere cells q n ∙ sym
      (with_there (λ q. object_at q cells) s q (Some w) n))
      (λ (d : q ≡ s). subst (λ q. object_at q (swapped s w cells) ≡ Some w) (sym d) (object_swapped
      cells o e) ∙ sym (with_here (λ q. object_at q cells) s q (Some w) d))
      (apart q s)

-- all of it, for a heap
pub changes : (a : Kept) (s : ℕ) → times_at s a.cells ≤ 1 → (o w : Object)
    → object_at s a.cells ≡ Some o → Changes a (with_object a s w) s o w
changes a s once o w e = record {
  next = refl;
  objects = swapped_object s w a.cells o e;
  count = λ q. over_swapped s w (count_in q) (λ cell o. refl) a.cells;
  inner = swapped_inner s w a.cells o e once;
  times = λ q. over_swapped s w (λ cell. is q cell.serial) (λ cell o. refl) a.cells;
}

-- another object at a place
abbrev with_place : Inside → ℕ → Option Cell → Object → Inside
with_place a p x w = record {
  shelf = record {
    cells = with_item a.shelf.cells p (with_in x w);
    free = a.shelf.free;
    dying = a.shelf.dying;
    kept = a.shelf.kept;
  };
  next = a.next;
}

-- the fields are sound then
pub sound_swapped : (a : Inside) (s p : ℕ) (at : Stands s a.shelf.cells.items p) (x : Option Cell)
    (w : Object)
    → Sound a → x ≡ Some at.cell
    → Sound (with_place a p x w)
sound_swapped a s p at x w sound ex =
    let e = ap (λ x. slice_set a.shelf.cells.items p (with_in x w)) ex ∙
    swapped_is s w a.shelf.cells.items p at (sound.once s) in
    let t : (q : ℕ) → times_at q (slice_set a.shelf.cells.items p (with_in x w)) ≡ times_at q
    a.shelf.cells.items = λ q. ap (times_at q) e ∙
    over_swapped s w (λ cell. is q cell.serial) (λ cell o. refl) a.shelf.cells.items in
    let k : kept_in (slice_set a.shelf.cells.items p (with_in x w)) ≡ kept_in a.shelf.cells.items =
    ap kept_in e ∙ over_swapped s w (λ cell. 1) (λ cell o. refl) a.shelf.cells.items in
    record {
      once = λ q. let o = sound.once q in let u = t q in omega arith;
      new = λ q h. t q ∙ sound.new q h;
      kept = sound.kept ∙ sym k;
      room = let r = sound.room in omega arith;
      dying = sound.dying;
    }

pub view_swapped : (a : Inside) (v : Kept) (s p : ℕ) (at : Stands s a.shelf.cells.items p)
    (x : Option Cell) (w : Object)
    → seen a ≡ v → times_at s a.shelf.cells.items ≤ 1 → x ≡ Some at.cell
    → seen (with_place a p x w) ≡ with_object v s w
view_swapped a v s p at x w is_v once ex =
    let e = ap (λ x. slice_set a.shelf.cells.items p (with_in x w)) ex ∙
    swapped_is s w a.shelf.cells.items p at once in
    ap (λ (cells : Cells). record { next = a.next; cells = cells }) e ∙
    ap (λ (v : Kept). with_object v s w) is_v

pub stands_in : (a : Inside) (v : Kept) (s p : ℕ) → seen a ≡ v → Stands s v.cells p
    → Stands s a.shelf.cells.items p
stands_in a v s p e at = subst (λ (v : Kept). Stands s v.cells p) (sym e) at

same_step : (s : ℕ) (o : Object) (cell : Cell) (cells : Cells) (b : Bool) → nat_eq s cell.serial ≡ b
    → object_at s (Some cell ∷ cells) ≡ Some o → times_at s (Some cell ∷ cells) ≤ 1
    → (object_at s cells ≡ Some o → swapped s o cells ≡ cells)
    → swapped s o (Some cell ∷ cells) ≡ Some cell ∷ cells
same_step s o cell cells true d e once more =
    let k : Some cell.object ≡ Some o = rw d at e in
    let j : o ≡ cell.object = cc (k) in
    let i : is s cell.serial ≡ 1 = grind (arith, nat_tests) in
    let z = none_swapped s o cells (omega arith) in
    rw (d, z) (ap (λ o. Some (record cell { object = o }) ∷ cells) j)
same_step s o cell cells false d e once more =
    rw d (ap (λ cells. Some cell ∷ cells) (more (rw d at e)))

-- the same object changes nothing
pub swapped_same : (s : ℕ) (o : Object) (cells : Cells) → object_at s cells ≡ Some o
    → times_at s cells ≤ 1 → swapped s o cells ≡ cells
swapped_same s o [] e once = refl
swapped_same s o (None ∷ cells) e once = ap (λ cells. None ∷ cells)
    (swapped_same s o cells e (omega arith))
swapped_same s o (Some cell ∷ cells) e once =
    same_step s o cell cells (nat_eq s cell.serial) refl e once
    (λ e. swapped_same s o cells e (omega arith))

pub with_same : (a : Kept) (s : ℕ) → times_at s a.cells ≤ 1 → (o : Object)
    → object_at s a.cells ≡ Some o → with_object a s o ≡ a
with_same a s once o e = ap (λ (cells : Cells). record { next = a.next; cells = cells })
    (swapped_same s o a.cells e once)
