use Rattle.std.proofs.Common.{ap, refl, sym, ◌∙◌}
use Rattle.hilti_heap.specs.Kept.{Kept}
use Rattle.hilti_heap.specs.Cells.{object_at}
use Rattle.hilti_heap.proofs.Places.{no_object}
use Rattle.hilti_heap.proofs.Changing.{changes, with_same}
use Rattle.hilti_heap.proofs.heap.Heap.change.Goals as goal

pub returns-in-None : goal.returns-in-None
returns-in-None c =
    let none = rw c.as_slice.ensures.value at (c.in-None.ensures).none in (
      refl,
      record {
        writes_back = tt;
        value = sym (no_object c.args.at.now c.self.inside.shelf.cells.items none) ∙
            ap (λ (v : Kept). object_at c.args.at.now v.cells) c.self.view_is;
        changes = changes c.args.self.now c.args.at.now
            (rw (← c.self.view_is) (c.self.invariant.once c.args.at.now));
        keeps = with_same c.args.self.now c.args.at.now
            (rw (← c.self.view_is) (c.self.invariant.once c.args.at.now));
      },
    )

pub returns-in-Some : goal.returns-in-Some
returns-in-Some c = (
  refl,
  record {
    writes_back = tt;
    value = sym c.object_mut.ensures.value;
    changes = changes c.args.self.now c.args.at.now
        (rw (← c.self.view_is) (c.self.invariant.once c.args.at.now));
    keeps = with_same c.args.self.now c.args.at.now
        (rw (← c.self.view_is) (c.self.invariant.once c.args.at.now));
  },
)
