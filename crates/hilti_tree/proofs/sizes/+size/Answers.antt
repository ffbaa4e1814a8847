use Rattle.std.proofs.Common.{arith}
use Rattle.hilti_tree.proofs.Added.{none_deeper, fits_below}
use Rattle.hilti_tree.proofs.sizes.+size.Goals as goal

pub size_of_all-size-total-requires : goal.size_of_all-size-total-requires
size_of_all-size-total-requires t c =
    let deep = none_deeper c.args.trees.now c.as_slice-tree-items.result.now c.loop-tree.tree-index c.tree-item.result c.as_slice-tree-items.ensures c.loop-tree-test.true c.tree-item.is in
    let fits = fits_below c.args.trees.now c.as_slice-tree-items.result.now c.loop-tree.tree-index c.tree-item.result c.as_slice-tree-items.ensures c.loop-tree-test.true c.tree-item.is c.requires in
    (omega (arith, deep), fits)
