use Rattle.std.proofs.Common.{arith}
use Rattle.hilti_heap.proofs.Lowering.{raised, count_of_stands}
use Rattle.hilti_heap.proofs.Places.{is_self}
use Rattle.hilti_heap.proofs.shelf.Shelf.raise.Goals as goal

pub returns-clause-ok : goal.returns-clause-ok
returns-clause-ok c =
    let at = rw c.as_slice.ensures.value at (c.in-Some.ensures).some in
    raised c.args.self.now _ c.args.at.now c.in-Some.place at (c.raise_at.ensures at.cell at.there)

pub returns-then-count_of-clause-full : goal.returns-then-count_of-clause-full
returns-then-count_of-clause-full c = record {
  serial = c.args.at.now;
  over = λ once.
      let at = rw c.as_slice.ensures.value at (c.in-Some.ensures).some in
      let n = (rw c.as_slice-in-Some.ensures.value at c.count_of.ensures) at.cell at.there in
      let k = count_of_stands c.args.at.now c.args.self.now.cells.items c.in-Some.place at once in
      let one = is_self c.args.at.now in
      omega arith;
}
