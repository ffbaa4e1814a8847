use Rattle.std.proofs.Common.{ℕ, ◌<◌}
use Rattle.hilti_heap.specs.Cells.{Stands}
use Rattle.hilti_heap.proofs.cells.place_of.Given as goal

-- the object is at no place so far
abbrev pub invariant-loop-place : goal.invariant-loop-place
invariant-loop-place l = (k : ℕ) → k < l.place → Stands l.serial l.cells k → ⊥
