use Rattle.std.proofs.Common.{take}
use Rattle.hilti_scope.specs.Gathered.{IsGathered}
use Rattle.hilti_scope.proofs.declarations.Declarations.of.Given as goal

abbrev pub invariant-loop-next : goal.invariant-loop-next
invariant-loop-next l = IsGathered (take l.next-index l.next-items) l.gathering
