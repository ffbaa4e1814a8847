-- The sizes of some trees against the sizes of all.
use Rattle.std.proofs.Common.{◌≡◌, ℕ, ◌+◌, ◌<◌, ◌≤◌, ◌^◌, List, length, take, get_or, ap, arith}
use Rattle.std.proofs.lemmas.List.Sums.{sum-map, sum_by_more, sum_by-take-le}
use Rattle.hilti_tree.specs.declared.tree.Tree.{Tree}
use Rattle.hilti_tree.specs.Sizes.{tree_size, forest_size}
use Rattle.hilti_tree.proofs.tree.Tree.TheLaws.{the_size}
use denote.Param.Weighed.{most, at_most}

-- the trees before a place and the tree there
pub one_more : (trees : List Tree) (at : ℕ) (tree : Tree) → at < length trees → tree ≡ get_or trees at tree
    → forest_size (take (at + 1) trees) ≡ forest_size (take at trees) + tree_size tree
one_more trees at tree below is =
    omega (
      arith,
      sum-map tree_size (take (at + 1) trees),
      sum-map tree_size (take at trees),
      sum_by_more tree_size trees at tree below,
      ap tree_size is,
    )

-- some trees are no larger than all
pub some_below : (trees : List Tree) (at : ℕ) → forest_size (take at trees) ≤ forest_size trees
some_below trees at =
    omega (
      arith,
      sum-map tree_size (take at trees),
      sum-map tree_size trees,
      sum_by-take-le tree_size trees at,
    )

-- a tree and those before it are no larger than all
pub below_all : (trees : List Tree) (at : ℕ) (tree : Tree) → at < length trees → tree ≡ get_or trees at tree
    → forest_size (take at trees) + tree_size tree ≤ forest_size trees
below_all trees at tree below is = omega (arith, one_more trees at tree below is, some_below trees (at + 1))

-- a tree is no deeper than the deepest
pub none_deeper : (trees items : List Tree) (at : ℕ) (tree : Tree) → items ≡ trees → at < length items → tree ≡ get_or items at tree
    → the_size tree ≤ most the_size trees
none_deeper trees items at tree same below is =
    let deep = at_most the_size items at tree below in
    let one = ap the_size is in
    let all = ap (most the_size) same in
    omega (arith, deep, one, all)

-- a tree is no larger than all
pub fits_below : (trees items : List Tree) (at : ℕ) (tree : Tree) → items ≡ trees → at < length items → tree ≡ get_or items at tree
    → forest_size trees < 2 ^ 64 → tree_size tree < 2 ^ 64
fits_below trees items at tree same below is fits =
    let whole = below_all items at tree below is in
    let all = ap forest_size same in
    omega (arith, whole, all, fits)
