use Rattle.std.proofs.Common.{take}
use Rattle.hilti_heap.specs.Held.{all_held}
use Rattle.hilti_heap.specs.Kept.{Releases}
use Rattle.hilti_acting.proofs.returning.let_go.Given as goal

-- the values so far are let go
abbrev pub invariant-loop-value : goal.invariant-loop-value
invariant-loop-value l = Releases l.fn.heap l.heap (λ s. all_held s (take l.value-index l.slots))
