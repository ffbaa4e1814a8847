use Rattle.std.proofs.Common.{◌≡◌, take, length}
use Rattle.hilti_types.proofs.equality.+same.Given as goal

-- the parts so far are the same
abbrev pub invariant-same_parts-loop-at : goal.invariant-same_parts-loop-at
invariant-same_parts-loop-at l = (length l.left ≡ length l.right) × (take l.at l.left ≡ take l.at l.right)
