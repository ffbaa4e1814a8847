use Rattle.std.proofs.Common.{take}
use Rattle.hilti_heap.specs.Held.{fields_held}
use Rattle.hilti_heap.specs.Shelves.{Sheds}
use Rattle.hilti_heap.proofs.shelf.Shelf.lower_fields.Given as goal

-- the fields so far lost their holders
abbrev pub invariant-loop-at : goal.invariant-loop-at
invariant-loop-at l = Sheds l.fn.self l.self (λ s. fields_held s (take l.at l.fields))
