use Rattle.std.proofs.Common.{◌≡◌, length, take}
use Rattle.hilti_scope.specs.Items.{placed}
use Rattle.hilti_declared.proofs.sites.number_at.Given as goal

-- the items of the modules so far are counted
abbrev pub invariant-loop-module : goal.invariant-loop-module
invariant-loop-module l = l.number ≡ length (placed (take l.module-index l.module-items))
