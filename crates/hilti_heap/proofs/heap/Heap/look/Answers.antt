use Rattle.std.proofs.Common.{ap, sym, ◌∙◌}
use Rattle.hilti_heap.specs.Kept.{Kept}
use Rattle.hilti_heap.specs.Cells.{object_at}
use Rattle.hilti_heap.proofs.Places.{object_here, no_object}
use Rattle.hilti_heap.proofs.heap.Heap.look.Goals as goal

pub returns-in-Some : goal.returns-in-Some
returns-in-Some c =
    let at = rw c.as_slice.ensures.value at (c.in-Some.ensures).some in
    let value = rw c.as_slice-in-Some.ensures.value at c.object_in.ensures in
    value at.cell at.there ∙ sym
    (object_here c.args.at.now c.self.inside.shelf.cells.items c.in-Some.place at
    (c.self.invariant.once c.args.at.now)) ∙ ap (λ (v : Kept). object_at c.args.at.now
    v.cells) c.self.view_is

pub returns-in-None : goal.returns-in-None
returns-in-None c =
    let none = rw c.as_slice.ensures.value at (c.in-None.ensures).none in
    sym (no_object c.args.at.now c.self.inside.shelf.cells.items none) ∙
    ap (λ (v : Kept). object_at c.args.at.now v.cells) c.self.view_is
