use Rattle.std.proofs.Common.{◌≡◌, ◌++◌, map, take}
use Rattle.hilti_values.specs.First.{first_of}
use Rattle.hilti_stack.specs.Frames.{with_made}
use Rattle.hilti_openings.proofs.entries.make_firsts.Given as goal

-- the variables of the types so far are made
abbrev pub invariant-loop-kind : goal.invariant-loop-kind
invariant-loop-kind l =
    l.stack ≡ with_made l.initial.stack (l.initial.stack.made ++ map first_of (take l.kind-index l.types))
