use Rattle.std.proofs.Common.{refl, arith}
use Rattle.hilti_heap.proofs.Making.{opens_new, opens_old}
use Rattle.hilti_heap.proofs.shelf.Shelf.place_for.Goals as goal

pub returns-then-is_free-clause-ok : goal.returns-then-is_free-clause-ok
returns-then-is_free-clause-ok c =
    let r = c.in_ok-reserve.ensures.ok in let l = c.reserve.ensures.len in
    opens_old c.args.self.now _ c.in-Some.place refl
    (rw c.as_slice.ensures.value at ((rw c.if-is_free.true at c.is_free.ensures).0 refl))
    (let o = c.args.self.now.cells.ok in let k = c.len.ensures in omega arith)

pub returns-clause-ok : goal.returns-clause-ok
returns-clause-ok c =
    let r = c.in_ok-reserve.ensures.ok in let l = c.reserve.ensures.len in
    opens_new c.args.self.now _ c.len-place.result c.in_ok-push.ensures.items
    (let o = c.args.self.now.cells.ok in let k = c.len-place.ensures in omega arith)
    (let o = c.args.self.now.cells.ok in let k = c.len.ensures in omega arith)
