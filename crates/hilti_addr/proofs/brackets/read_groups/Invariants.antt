use Rattle.std.proofs.Common.{length}
use Rattle.hilti_addr.proofs.Groups.{Follows}
use Rattle.hilti_addr.proofs.brackets.read_groups.Given as goal

abbrev pub invariant-loop-front : goal.invariant-loop-front
invariant-loop-front l = Follows l.text l.rest l.groups

abbrev pub decreases-loop-front : goal.decreases-loop-front
decreases-loop-front l = length l.rest
