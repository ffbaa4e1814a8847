use Rattle.std.proofs.Common.{take}
use Rattle.hilti_heap.specs.Held.{all_held}
use Rattle.hilti_heap.specs.Shelves.{Sheds}
use Rattle.hilti_heap.proofs.shelf.Shelf.+lower.Given as goal

-- the values so far lost their holders
abbrev pub invariant-lower_values-loop-value : goal.invariant-lower_values-loop-value
invariant-lower_values-loop-value l = Sheds l.fn.self l.self
    (λ s. all_held s (take l.value-index l.value-items))
