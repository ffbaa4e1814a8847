use Rattle.std.proofs.Common.{◌≡◌, take}
use Rattle.hilti_tree.proofs.copies.+copy.Given as goal

-- copies of the trees so far
abbrev pub invariant-copy_trees-loop-tree : goal.invariant-copy_trees-loop-tree
invariant-copy_trees-loop-tree l = l.copied ≡ take l.tree-index l.tree-items
