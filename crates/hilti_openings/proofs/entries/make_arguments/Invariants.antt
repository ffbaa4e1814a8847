use Rattle.std.proofs.Common.{◌≡◌, ◌++◌, map, take}
use Rattle.hilti_stack.specs.Frames.{with_made}
use Rattle.hilti_effects.specs.Effect.{value_of_tree}
use Rattle.hilti_openings.proofs.entries.make_arguments.Given as goal

-- the values of the trees so far are made
abbrev pub invariant-loop-tree : goal.invariant-loop-tree
invariant-loop-tree l =
    l.stack ≡ with_made l.initial.stack (l.initial.stack.made ++ map value_of_tree (take l.tree-index l.arguments))
