use Rattle.std.proofs.Common.{length}
use Rattle.hilti_check.proofs.Scanning.{Left}
use Rattle.hilti_check.proofs.built.first_among.Given as goal

-- what is found among those that are left is what is found among all
abbrev pub invariant-loop-place : goal.invariant-loop-place
invariant-loop-place l = Left l.places l.instructions (length l.yielded)
