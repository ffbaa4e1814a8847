use Rattle.std.proofs.Common.{◌≡◌, map, take}
use Rattle.hilti_effects.specs.Printing.{tree_of}
use Rattle.hilti_acting.proofs.printing.+trees.Given as goal

-- the trees of the values so far
abbrev pub invariant-trees_of-loop-value : goal.invariant-trees_of-loop-value
invariant-trees_of-loop-value l = l.trees ≡ map tree_of (take l.value-index l.value-items)
