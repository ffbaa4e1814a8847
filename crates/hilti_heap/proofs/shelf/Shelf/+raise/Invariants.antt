use Rattle.std.proofs.Common.{◌≡◌, take}
use Rattle.hilti_heap.specs.Held.{all_held}
use Rattle.hilti_heap.specs.Shelves.{Gains}
use Rattle.hilti_heap.proofs.shelf.Shelf.+raise.Given as goal

-- the values so far have their holders
abbrev pub invariant-raise_values-loop-value : goal.invariant-raise_values-loop-value
invariant-raise_values-loop-value l = record {
  raised : Gains l.fn.self l.self (λ s. all_held s (take l.value-index l.value-items));
  dying : l.self.dying ≡ l.fn.self.dying;
  kept : l.self.kept ≡ l.fn.self.kept;
}
