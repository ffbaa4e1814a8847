use Rattle.std.proofs.Common.{◌≡◌, map, take}
use Rattle.hilti_values.specs.First.{first_of}
use Rattle.hilti_values.proofs.first.+first.Given as goal

-- the values so far are those of the types so far
abbrev pub invariant-first_values-loop-kind : goal.invariant-first_values-loop-kind
invariant-first_values-loop-kind l = l.values ≡ map first_of (take l.kind-index l.kind-items)
