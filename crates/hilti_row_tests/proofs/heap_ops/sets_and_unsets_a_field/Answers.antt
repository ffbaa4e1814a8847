use Rattle.std.proofs.Common.{arith}
use Rattle.hilti_values.specs.declared.value.Value.TheVariants.{Int}
use Rattle.hilti_row_tests.proofs.Tested.{made_field, made_held, made_plain, number_holds_nothing}
use Rattle.hilti_row_tests.proofs.heap_ops.sets_and_unsets_a_field.Goals as goal

pub struct_set-was_set-requires-clause-kind : goal.struct_set-was_set-requires-clause-kind
struct_set-was_set-requires-clause-kind g c =
    made_field 1 0 c.in-Ok-Some.object c.new-heap.result c.new_struct.new.heap
    c.new-heap.ensures.cells (omega arith) _ c.in-Ok-Some.field-0-is c.in-Ok-Some.ensures

pub struct_set-was_set-requires-clause-held : goal.struct_set-was_set-requires-clause-held
struct_set-was_set-requires-clause-held g c =
    made_plain 1 0 c.in-Ok-Some.object c.new-heap.result c.new_struct.new.heap
    c.new-heap.ensures.cells (omega arith) _ c.in-Ok-Some.field-0-is c.in-Ok-Some.ensures
    (Int 7) (number_holds_nothing 7)

pub struct_unset-was_unset-requires-clause-kind : goal.struct_unset-was_unset-requires-clause-kind
struct_unset-was_unset-requires-clause-kind g c =
    made_field 1 0 c.in-Ok-Some-new_struct.other c.new-other_heap.result c.new_struct-2.new.heap
    c.new-other_heap.ensures.cells (omega arith) _ c.in-Ok-Some-new_struct.field-0-is
    c.in-Ok-Some-new_struct.ensures

pub struct_unset-was_unset-requires-clause-held : goal.struct_unset-was_unset-requires-clause-held
struct_unset-was_unset-requires-clause-held g c =
    made_held 1 0 c.in-Ok-Some-new_struct.other c.new-other_heap.result c.new_struct-2.new.heap
    c.new-other_heap.ensures.cells (omega arith) _ c.in-Ok-Some-new_struct.field-0-is
    c.in-Ok-Some-new_struct.ensures
