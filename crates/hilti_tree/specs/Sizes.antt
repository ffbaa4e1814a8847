-- The size of a tree.
use Rattle.std.specs.Prelude.{ℕ, ◌+◌, List, length, sum, map}
use Rattle.hilti_tree.specs.declared.tree.Tree.{Tree}
use Rattle.hilti_tree.specs.declared.tree.Tree.TheOpen.{Tree-F}
use Rattle.hilti_tree.specs.declared.tree.Tree.TheFolds.{fold-Tree}

-- each node counts 1, each text and each list of bytes its length on top, and each priority of a rule 1; the sizes of
-- the trees in it stand in their places
abbrev pub size_step : Tree-F ℕ → ℕ
size_step (Tree-F.Text bytes) = 1 + length bytes
size_step (Tree-F.Bytes bytes) = 1 + length bytes
size_step (Tree-F.Tuple parts) = 1 + sum parts
size_step (Tree-F.List items) = 1 + sum items
size_step (Tree-F.Vector items) = 1 + sum items
size_step (Tree-F.Set keys) = 1 + sum keys
size_step (Tree-F.Map keys values) = 1 + (sum keys + sum values)
size_step (Tree-F.Fields fields) = 1 + sum fields
size_step (Tree-F.Rules fields priorities values compiled) = 1 + (sum fields + length priorities + sum values)
size_step _ = 1

-- the size of a tree
abbrev pub tree_size : Tree → ℕ
tree_size = fold-Tree ℕ size_step

-- the sizes of trees, added
abbrev pub forest_size : List Tree → ℕ
forest_size trees = sum (map tree_size trees)
