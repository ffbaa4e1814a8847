use Rattle.std.proofs.Common.{◌≡◌, map, take}
use Rattle.hilti_effects.specs.Operands.{value_at}
use Rattle.hilti_acting.proofs.calling.shared_values.Given as goal

-- the values so far are shared
abbrev pub invariant-loop-source : goal.invariant-loop-source
invariant-loop-source l =
    l.values ≡ map (value_at l.stack.slots l.globals) (take l.source-index l.sources)
