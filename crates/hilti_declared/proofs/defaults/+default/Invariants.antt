use Rattle.std.proofs.Common.{◌≡◌, map, take}
use Rattle.hilti_typing.specs.Defaults.{default_of}
use Rattle.hilti_declared.proofs.defaults.+default.Given as goal

-- the values so far are those of the types so far
abbrev pub invariant-default_values-loop-kind : goal.invariant-default_values-loop-kind
invariant-default_values-loop-kind l = l.trees ≡ map default_of (take l.kind-index l.kind-items)
