use Rattle.std.proofs.Common.{◌≡◌, ◌+◌, ◌++◌, map, drop}
use Rattle.hilti_scope.specs.Items.{placed_in}
use Rattle.hilti_link.specs.Hooks.{announced_from}
use Rattle.hilti_link.specs.Announcing.{shows}
use Rattle.hilti_link.proofs.hooks.announce_module.Given as goal

-- what is found so far, and what is left
abbrev pub invariant-loop-at : goal.invariant-loop-at
invariant-loop-at l = map shows l.hooks.items ++ announced_from (l.here + l.at) (placed_in l.file (drop l.at l.item-items)) ≡ map shows l.initial.hooks.items ++ announced_from l.here (placed_in l.file l.next.items)
