use Rattle.std.proofs.Common.{◌≡◌, arith, refl}
use Rattle.hilti_heap.proofs.Lowering.{same_place, ready_at, lowered, ready_count}
use Rattle.hilti_heap.proofs.shelf.Shelf.lower_place.Goals as goal

pub lower_at-requires : goal.lower_at-requires
lower_at-requires c =
    let at = c.requires.there in
    let n = ready_count c.args.self.now c.requires.serial c.args.place at c.requires.ready in
    (at.cell, at.there, omega arith)

pub returns-else-count_of-eq1 : goal.returns-else-count_of-eq1
returns-else-count_of-eq1 c = λ s at.
    let same = same_place c.requires.serial s _ c.args.place c.requires.there at in
    let ready = ready_at c.args.self.now c.requires.serial s same c.requires.ready in
    let n = ready_count c.args.self.now s c.args.place at ready in
    let e = rw c.as_slice.ensures.value at c.count_of.ensures in
    let k : c.count_of.result ≡ at.cell.count = e at.cell at.there in
    lowered c.args.self.now _ s c.args.place at ready (omega arith)
    (c.lower_at.ensures at.cell at.there) refl refl
