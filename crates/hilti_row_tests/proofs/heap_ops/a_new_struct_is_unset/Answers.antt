use Rattle.std.proofs.Common.{arith}
use Rattle.hilti_row_tests.proofs.Tested.{made_field, made_held}
use Rattle.hilti_row_tests.proofs.heap_ops.a_new_struct_is_unset.Goals as goal

pub struct_is_set-is_set-requires : goal.struct_is_set-is_set-requires
struct_is_set-is_set-requires g c =
    made_field 2 1 c.in-Ok-Some.object c.new-heap.result c.new_struct.new.heap
    c.new-heap.ensures.cells (omega arith) _ c.in-Ok-Some.field-0-is c.in-Ok-Some.ensures

pub struct_get-field-requires-clause-kind : goal.struct_get-field-requires-clause-kind
struct_get-field-requires-clause-kind g c =
    made_field 2 1 c.in-Ok-Some.object c.new-heap.result c.new_struct.new.heap
    c.new-heap.ensures.cells (omega arith) _ c.in-Ok-Some.field-0-is c.in-Ok-Some.ensures

pub struct_get-field-requires-clause-held : goal.struct_get-field-requires-clause-held
struct_get-field-requires-clause-held g c =
    made_held 2 1 c.in-Ok-Some.object c.new-heap.result c.new_struct.new.heap
    c.new-heap.ensures.cells (omega arith) _ c.in-Ok-Some.field-0-is c.in-Ok-Some.ensures
