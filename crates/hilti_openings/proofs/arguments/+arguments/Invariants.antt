use Rattle.std.proofs.Common.{◌≡◌, map, take}
use Rattle.hilti_effects.specs.Effect.{value_of_tree}
use Rattle.hilti_openings.proofs.arguments.+arguments.Given as goal

-- the values so far are those of the trees so far
abbrev pub invariant-tree_values-loop-tree : goal.invariant-tree_values-loop-tree
invariant-tree_values-loop-tree l = l.values ≡ map value_of_tree (take l.tree-index l.tree-items)
