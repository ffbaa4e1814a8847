use Rattle.std.proofs.Common.{◌≡◌, map, take}
use Rattle.hilti_parts.specs.declared.parts.Global.{Global}
use Rattle.hilti_effects.specs.Effect.{value_of_tree}
use Rattle.hilti_openings.proofs.globals.first_globals.Given as goal

-- the values so far are those of the globals so far
abbrev pub invariant-loop-global : goal.invariant-loop-global
invariant-loop-global l =
    l.globals.items ≡ map (λ (g : Global). value_of_tree g.first) (take l.global-index l.declared)
