-- An object has one holder less.
use Rattle.std.proofs.Common.{◌≡◌, ◌≢◌, ℕ, zero, suc, ◌+◌, ◌-◌, ◌<◌, ◌≤◌, List}
use Rattle.std.proofs.Common.{[], ◌∷◌, ◌++◌, refl, sym, ap, subst, ◌∙◌, Some, None}
use Rattle.std.proofs.Common.{arith, ◌⊎◌, ⊎_elim}
use Rattle.std.proofs.lemmas.Bool.Decides.{nat_tests}
use Rattle.std.specs.Prelude.{slice_get, slice_set, sum_by}
use Rattle.std.proofs.lemmas.List.Sums.{sum_by-append, sum_by-cons}
use Rattle.std.specs.Vec.{vec_len, vec_capacity}
use Rattle.hilti_heap.specs.declared.cells.Cell.{Cell}
use Rattle.hilti_heap.specs.declared.shelf.Shelf.{Shelf}
use Rattle.hilti_heap.specs.Held.{is, object_held}
use Rattle.hilti_heap.specs.Cells.{Cells, count_in, count_at, inner_at, times_at, kept_in}
use Rattle.hilti_heap.specs.Cells.{object_in, object_at, Stands}
use Rattle.hilti_heap.specs.Shelves.{dying_held, Ready, Sheds, Gains}
use Rattle.hilti_heap.proofs.Places.{is_self, is_same, over_set, over_at}
use Rattle.hilti_heap.proofs.Places.{no_count, has_object, object_other}

abbrev less : Cell → Cell
less cell = record cell { count = cell.count - 1 }

one_less : (s : ℕ) (cell : Cell) → 1 ≤ cell.count
    → count_in s (less cell) + is s cell.serial ≡ count_in s cell
one_less s cell h = grind (arith, nat_tests)

one_all : (s : ℕ) (cell : Cell) → cell.count ≡ 1 → is s cell.serial ≡ count_in s cell
one_all s cell h = grind (arith, nat_tests)

own_count : (s : ℕ) (cell : Cell) → s ≡ cell.serial → count_in s cell ≡ cell.count
own_count s cell h = grind (arith, nat_tests)

-- two numbers are one, or neither counts as the other
pub apart : (s r : ℕ) → (is s r ≡ 0) ⊎ (s ≡ r)
apart s r = grind (arith, nat_tests)

-- the sum with one more
pub sum_more : {X : Type 0} (f : X → ℕ) (xs : List X) (x : X)
    → sum_by f (xs ++ x ∷ []) ≡ sum_by f xs + f x
sum_more f xs x = let d = sum_by-append f xs (x ∷ []) in let e = sum_by-cons f x [] in omega arith

-- the count of an object that is there
pub count_of_stands : (r : ℕ) (cells : Cells) (p : ℕ) (at : Stands r cells p) → times_at r cells ≤ 1
    → count_at r cells ≡ at.cell.count
count_of_stands r cells p at once =
    let t = over_set (λ cell. is r cell.serial) cells p (Some at.cell) None at.there in
    let one = is_same r at.cell.serial (sym at.serial) in
    let none = no_count r (slice_set cells p None) (omega arith) in
    let c = over_set (count_in r) cells p (Some at.cell) None at.there in
    let own = own_count r at.cell (sym at.serial) in
    omega arith

-- a cell's count changes
object_counted : (s : ℕ) (cells : Cells) (p : ℕ) (cell : Cell) (n : ℕ)
    → slice_get cells p ≡ Some (Some cell)
    → object_at s (slice_set cells p (Some (record cell { count = n }))) ≡ object_at s cells
object_counted s [] p cell n e = refl
object_counted s (x ∷ cells) zero cell n e = let d : x ≡ Some cell = cc in rw d refl
object_counted s (x ∷ cells) (suc p) cell n e =
    ap (object_in s x) (object_counted s cells p cell n e)

module _ (a b : Shelf) (r p : ℕ) (at : Stands r a.cells.items p) (ready : Ready a (λ s. is s r))
  where
    -- it has others
    pub lowered : 1 < at.cell.count → b.cells.items ≡ slice_set a.cells.items p
        (Some (record at.cell { count = at.cell.count - 1 })) → b.dying ≡ a.dying → b.kept ≡ a.kept
        → Sheds a b (λ s. is s r)
    lowered more eb ed ek =
        let changed = λ (f : Cell → ℕ). over_set f a.cells.items p (Some at.cell) (Some (less at.cell))
        at.there in
        let counts : (s : ℕ) → count_at s b.cells.items + is s r ≡ count_at s a.cells.items = λ s.
        (let x = changed (count_in s) in let y = one_less s at.cell (omega arith) in let z = ap
        (count_at s) eb in let t = ap (is s) at.serial in omega arith) in
        let times : (s : ℕ) → times_at s b.cells.items ≡ times_at s a.cells.items = λ s.
        (let x = changed (λ cell. is s cell.serial) in let z = ap (times_at s) eb in omega arith) in
        let size : kept_in b.cells.items ≡ kept_in a.cells.items = let x = changed (λ cell. 1) in
        let z = ap kept_in eb in omega arith in
        record {
          count = counts;
          within = λ s. let x = changed (λ cell. object_held s cell.object) in let z =
              ap (inner_at s) eb in let d = ap (λ d. dying_held s d.items) ed in omega arith;
          objects = λ s o e. sym (object_counted s a.cells.items p at.cell (at.cell.count - 1) at.there)
              ∙ ap (object_at s) (sym eb) ∙ e;
          times = λ s. let t = times s in omega arith;
          alive = λ s h there. let t = times s in let c = counts s in ⊎_elim
              (λ (e : is s r ≡ 0). let k = h (omega arith) in omega arith)
              (λ (e : s ≡ r). let k = count_of_stands r a.cells.items p at (ready.once r) in let m :
              count_at s a.cells.items ≡ at.cell.count = ap (λ s. count_at s a.cells.items) e ∙ k in
              let i = is_same s r e in omega arith)
              (apart s r);
          kept = λ e. omega arith;
          size = let d = ap vec_len ed in omega arith;
          capacity = ap vec_capacity ed;
        }

    -- it was the last
    pub gone : at.cell.count ≡ 1 → b.cells.items ≡ slice_set a.cells.items p None
        → b.dying.items ≡ a.dying.items ++ at.cell.object ∷ [] → vec_len b.dying ≡ vec_len a.dying + 1
        → vec_capacity b.dying ≡ vec_capacity a.dying → b.kept ≡ a.kept - 1
        → Sheds a b (λ s. is s r)
    gone one eb ed el ec ek =
        let changed = λ (f : Cell → ℕ). over_set f a.cells.items p (Some at.cell) None at.there in
        let counts : (s : ℕ) → count_at s b.cells.items + is s r ≡ count_at s a.cells.items = λ s.
        (let x = changed (count_in s) in let y = one_all s at.cell one in let z = ap (count_at s) eb
        in let t = ap (is s) at.serial in omega arith) in
        let times : (s : ℕ) → times_at s b.cells.items + is s r ≡ times_at s a.cells.items = λ s.
        (let x = changed (λ cell. is s cell.serial) in let z = ap (times_at s) eb in let t = ap (is
        s) at.serial in omega arith) in
        let size : kept_in b.cells.items + 1 ≡ kept_in a.cells.items = let x = changed (λ cell. 1) in
        let z = ap kept_in eb in omega arith in
        record {
          count = counts;
          within = λ s. let x = changed (λ cell. object_held s cell.object) in let z =
              ap (inner_at s) eb in let d = ap (dying_held s) ed in let m =
              sum_more (object_held s) a.dying.items at.cell.object in omega arith;
          objects = λ s o e. ⊎_elim
              (λ (i : is s r ≡ 0). sym (object_other s a.cells.items p (Some at.cell) None at.there (ap
              (is s) at.serial ∙ i) refl) ∙ ap (object_at s) (sym eb) ∙ e)
              (λ (i : s ≡ r). let k = has_object s b.cells.items o e in let t = times s in let once =
              ready.once s in let j = is_same s r i in absurd (omega arith))
              (apart s r);
          times = λ s. let t = times s in omega arith;
          alive = λ s h there. let t = times s in let c = counts s in ⊎_elim
              (λ (e : is s r ≡ 0). let k = h (omega arith) in omega arith)
              (λ (e : s ≡ r). let once = ready.once s in let i = is_same s r e in absurd (omega arith))
              (apart s r);
          kept = λ e. omega arith;
          size = omega arith;
          capacity = ec;
        }

-- an object that is to lose a holder is there, with a count
pub ready_count : (a : Shelf) (r p : ℕ) (at : Stands r a.cells.items p) → Ready a (λ s. is s r)
    → 1 ≤ at.cell.count
ready_count a r p at ready =
    let c = count_of_stands r a.cells.items p at (ready.once r) in
    let e = ready.enough r in
    let i = is_self r in
    omega arith

pub ready_there : (a : Shelf) (r : ℕ) → Ready a (λ s. is s r) → times_at r a.cells.items ≢ 0
ready_there a r ready none = let c = no_count r a.cells.items none in let e = ready.enough r in
    let i = is_self r in omega arith

pub one_kept : (cells : Cells) (p : ℕ) (cell : Cell) → slice_get cells p ≡ Some (Some cell)
    → 1 ≤ kept_in cells
one_kept cells p cell e = over_at (λ cell. 1) cells p (Some cell) e

-- one object is at a place
pub same_place : (r s : ℕ) (cells : Cells) (p : ℕ) → Stands r cells p → Stands s cells p → r ≡ s
same_place r s cells p a b = let x = a.there in let y = b.there in let u = a.serial in let v =
    b.serial in cc

pub ready_at : (a : Shelf) (r s : ℕ) → r ≡ s → Ready a (λ q. is q r) → Ready a (λ q. is q s)
ready_at a r s e ready = subst (λ r. Ready a (λ q. is q r)) e ready

-- one more holder
one_more : (s : ℕ) (cell : Cell) → count_in s (record cell { count = cell.count + 1 }) ≡ count_in s
    cell + is s cell.serial
one_more s cell = grind (arith, nat_tests)

pub raised : (a b : Shelf) (r p : ℕ) (at : Stands r a.cells.items p) → b.cells.items ≡ slice_set
    a.cells.items p (Some (record at.cell { count = at.cell.count + 1 }))
    → Gains a b (λ s. is s r)
raised a b r p at eb =
    let changed = λ (f : Cell → ℕ). over_set f a.cells.items p (Some at.cell)
    (Some (record at.cell { count = at.cell.count + 1 })) at.there in
    record {
      count = λ s. let x = changed (count_in s) in let y = one_more s at.cell in let z =
          ap (count_at s) eb in let t = ap (is s) at.serial in omega arith;
      same = record {
        inner = λ s. let x = changed (λ cell. object_held s cell.object) in let z =
            ap (inner_at s) eb in omega arith;
        objects = λ s. ap (object_at s) eb ∙
            object_counted s a.cells.items p at.cell (at.cell.count + 1) at.there;
        times = λ s. let x = changed (λ cell. is s cell.serial) in let z = ap (times_at s) eb in
            omega arith;
        size = let x = changed (λ cell. 1) in let z = ap kept_in eb in omega arith;
      };
    }
