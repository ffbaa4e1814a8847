use Rattle.std.proofs.Common.{◌≡◌, []}
use Rattle.hilti_declared.specs.Hooks.{lists_from}
use Rattle.hilti_declared.proofs.hooks.empty_lists.Given as goal

abbrev pub invariant-loop-i : goal.invariant-loop-i
invariant-loop-i l = l.lists.items ≡ lists_from [] 0 l._i
