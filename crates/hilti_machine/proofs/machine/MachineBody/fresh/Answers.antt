use Rattle.std.proofs.Common.{◌∙◌, ap, map, refl}
use Rattle.hilti_parts.specs.declared.parts.Global.{Global}
use Rattle.hilti_parts.specs.declared.parts.Parts.{Parts}
use Rattle.hilti_effects.specs.Effect.{value_of_tree}
use Rattle.hilti_machine.proofs.Starting.{fresh_rests}
use Rattle.hilti_machine.proofs.machine.MachineBody.fresh.Goals as goal

pub returns : goal.returns
returns c =
    fresh_rests _ c.program-program.ensures.typed _ refl
    (c.in_ok-globals.ensures
    ∙ ap (map (λ (g : Global). value_of_tree g.first))
    (c.as_slice.ensures
    ∙ ap (λ (p : Parts). p.globals) (c.parts-parts.ensures.is ∙ c.program-program.ensures.is)))
    c.new-heap.ensures.next c.new-heap.ensures.cells
