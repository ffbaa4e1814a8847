use Rattle.std.proofs.Common.{ap, refl, sym, ◌∙◌, Some}
use Rattle.std.specs.Prelude.{option_map}
use Rattle.std.proofs.lemmas.Option.{get_or_from_slice_get}
use Rattle.hilti_heap.specs.declared.cells.Cell.{Cell}
use Rattle.hilti_heap.specs.Cells.{object_at}
use Rattle.hilti_heap.specs.Kept.{Kept}
use Rattle.hilti_heap.proofs.Places.{object_here}
use Rattle.hilti_heap.proofs.Changing.{sound_swapped, view_swapped, stands_in}
use Rattle.hilti_heap.proofs.heap.Heap.object_mut.Goals as goal

pub invariant_of-self-lent : goal.invariant_of-self-lent
invariant_of-self-lent c = λ w.
    let at = stands_in c.self.inside c.args.self.now c.args.at.now c.args.place c.self.view_is
    c.requires in
    sound_swapped c.self.inside c.args.at.now c.args.place at c.index_mut.result.now w
    c.self.invariant
    (c.index_mut.ensures.value ∙ get_or_from_slice_get c.self.inside.shelf.cells.items
    c.args.place (Some at.cell) c.index_mut.result.now at.there)

pub returns : goal.returns
returns c =
    let at = stands_in c.self.inside c.args.self.now c.args.at.now c.args.place c.self.view_is
    c.requires in
    let x = c.index_mut.ensures.value ∙ get_or_from_slice_get c.self.inside.shelf.cells.items
    c.args.place (Some at.cell) c.index_mut.result.now at.there in
    let once = c.self.invariant.once c.args.at.now in (
      (
        refl,
        λ w. view_swapped c.self.inside c.args.self.now c.args.at.now c.args.place at
            c.index_mut.result.now w c.self.view_is once x,
      ),
      record {
        writes_back = tt;
        value = ap (λ (v : Kept). object_at c.args.at.now v.cells) (sym c.self.view_is) ∙
            object_here c.args.at.now c.self.inside.shelf.cells.items c.args.place at once ∙
            ap (option_map (λ (cell : Cell). cell.object)) (sym x) ∙ c.object_of.ensures.value;
      },
    )
