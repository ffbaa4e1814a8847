use Rattle.std.proofs.Common.{◌≡◌, take}
use Rattle.hilti_tree.proofs.copies.copy_numbers.Given as goal

-- copies of the numbers so far
abbrev pub invariant-loop-n : goal.invariant-loop-n
invariant-loop-n l = l.copied ≡ take l.n-index l.n-items
