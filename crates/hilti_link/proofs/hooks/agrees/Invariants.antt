use Rattle.std.proofs.Common.{◌≡◌, length, drop}
use Rattle.hilti_scope.specs.Scopes.{means}
use Rattle.hilti_resolve.specs.Same.{all_same}
use Rattle.hilti_link.specs.Hooks.{all_say}
use Rattle.hilti_link.proofs.hooks.agrees.Given as goal

-- what is left agrees where all does
abbrev pub invariant-loop-at : goal.invariant-loop-at
invariant-loop-at l = record {
  counted : length l.parameters ≡ length l.hook_parameters;
  left : all_same (all_say (means l.scope) (drop l.at l.parameters)) (all_say (means l.hook_scope) (drop l.at l.hook_parameters)) ≡ all_same (all_say (means l.scope) l.parameters) (all_say (means l.hook_scope) l.hook_parameters);
}
