use Rattle.std.proofs.Common.{◌≡◌, ◌+◌, length, take}
use Rattle.hilti_scope.specs.Items.{placed}
use Rattle.hilti_scope.proofs.declarations.can_be_numbered.Given as goal

abbrev pub invariant-loop-next : goal.invariant-loop-next
invariant-loop-next l = length (placed (take l.next-index l.next-items)) + l.room ≡ 2147483647
