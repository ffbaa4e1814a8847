use Rattle.std.proofs.Common.{◌∙◌}
use Rattle.hilti_heap.specs.Held.{held}
use Rattle.hilti_heap_ops.proofs.Fields.{field_kept}
use Rattle.hilti_heap_ops.proofs.structs.struct_get.Goals as goal

pub hold_value-requires : goal.hold_value-requires
hold_value-requires c =
    field_kept c.args.heap.now c.args.object.now c.in-Ref.to c.args.at c.in-Some.value
    (λ s. held s c.args.object.now) c.in-Ref.is c.requires.kind c.requires.held
    (λ o e. c.in_ok-value-in-Ref.ensures o e ∙ c.in-Some.is)
