use Rattle.hilti_check.proofs.Scanning.{Behind}
use Rattle.hilti_check.proofs.built.first_in_blocks.Given as goal

-- what is found in the blocks that are left is what is found in all
abbrev pub invariant-loop-block : goal.invariant-loop-block
invariant-loop-block l = Behind l.places l.blocks l.left l.block-index
