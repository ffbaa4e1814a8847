use Rattle.std.proofs.Common.{◌≡◌, take}
use Rattle.hilti_row_types.proofs.copies.+copy.Given as goal

-- copies of the parts so far
abbrev pub invariant-copy_parts-loop-part : goal.invariant-copy_parts-loop-part
invariant-copy_parts-loop-part l = l.copied ≡ take l.part-index l.part-items
