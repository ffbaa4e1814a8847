use Rattle.std.proofs.Common.{◌≡◌, arith, refl}
use Rattle.hilti_heap.specs.Cells.{Stands}
use Rattle.hilti_heap.proofs.Lowering.{same_place, ready_at, gone, one_kept}
use Rattle.hilti_heap.proofs.shelf.Shelf.give_back.Goals as goal

pub push_reserved-requires : goal.push_reserved-requires
push_reserved-requires c =
    let k = one_kept c.args.self.now.cells.items c.args.place c.requires.there.cell
    c.requires.there.there in
    let r = c.requires.ready.room in omega arith

pub overflow_sub-self : goal.overflow_sub-self
overflow_sub-self c =
    let k = one_kept c.args.self.now.cells.items c.args.place c.requires.there.cell
    c.requires.there.there in
    let r = c.requires.ready.kept in omega arith

pub returns-in-Some : goal.returns-in-Some
returns-in-Some c = λ cell there one.
    let at : Stands cell.serial c.args.self.now.cells.items c.args.place =
    record { cell = cell; there = there; serial = refl } in
    let same = same_place c.requires.serial cell.serial _ c.args.place c.requires.there at in
    let ready = ready_at c.args.self.now c.requires.serial cell.serial same c.requires.ready in
    let taken = c.in-Some.ensures in
    let e : cell.object ≡ c.in-Some.cell.object = cc (taken.value) in
    gone c.args.self.now _ cell.serial c.args.place at ready one taken.rest
    (rw (← e) at c.push_reserved.ensures.items) c.push_reserved.ensures.len
    c.push_reserved.ensures.capacity refl
