use Rattle.std.proofs.Common.{◌≡◌, take}
use Rattle.hilti_declared.specs.Hooks.{lists_from}
use Rattle.hilti_declared.proofs.hooks.lists_of.Given as goal

abbrev pub invariant-loop-body : goal.invariant-loop-body
invariant-loop-body l = l.lists.items ≡ lists_from (take l.body-index l.bodies) 0 l.count
