use Rattle.std.proofs.Common.{◌≡◌, take}
use Rattle.hilti_tree.specs.Sizes.{forest_size}
use Rattle.hilti_tree.proofs.sizes.+size.Given as goal

-- the sizes of the trees so far
abbrev pub invariant-size_of_all-loop-tree : goal.invariant-size_of_all-loop-tree
invariant-size_of_all-loop-tree l = l.total ≡ forest_size (take l.tree-index l.tree-items)
