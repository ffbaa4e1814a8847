-- A new object.
use Rattle.std.proofs.Common.{◌≡◌, ℕ, ◌+◌, ◌≤◌, [], ◌∷◌, ◌++◌, length, sym}
use Rattle.std.proofs.Common.{ap, subst, ◌∙◌, Some, None, arith}
use Rattle.std.specs.Prelude.{slice_get}
use Rattle.std.specs.Vec.{vec_len, vec_capacity}
use Rattle.hilti_heap.specs.declared.shelf.Shelf.{Shelf}
use Rattle.hilti_heap.specs.Cells.{over, kept_in, object_at}
use Rattle.hilti_heap.specs.Shelves.{Opens}
use Rattle.hilti_heap.proofs.Places.{over_more, object_more, get_more, kept_below}

module _ (a b : Shelf) (p : ℕ) where
  -- a new place
  pub opens_new : b.cells.items ≡ a.cells.items ++ None ∷ [] → p ≡ length a.cells.items
      → length a.cells.items + 1 + vec_len b.dying ≤ vec_capacity b.dying → Opens a b p
  opens_new e ep room = record {
    free = subst (λ p. slice_get b.cells.items p ≡ Some None) (sym ep)
        (ap (λ cells. slice_get cells (length a.cells.items)) e ∙ get_more a.cells.items None);
    sums = λ f. let m = over_more f a.cells.items None in let z = ap (over f) e in omega arith;
    objects = λ s. ap (object_at s) e ∙ object_more s a.cells.items;
    room = let m = over_more (λ cell. 1) a.cells.items None in let z = ap kept_in e in let k =
        kept_below a.cells.items in omega arith;
  }

  -- a place that was given back
  pub opens_old : b.cells.items ≡ a.cells.items → slice_get a.cells.items p ≡ Some None
      → length a.cells.items + 1 + vec_len b.dying ≤ vec_capacity b.dying → Opens a b p
  opens_old e free room = record {
    free = ap (λ cells. slice_get cells p) e ∙ free;
    sums = λ f. ap (over f) e;
    objects = λ s. ap (object_at s) e;
    room = let z = ap kept_in e in let k = kept_below a.cells.items in omega arith;
  }
