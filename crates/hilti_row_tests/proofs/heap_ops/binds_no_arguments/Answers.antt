use Rattle.hilti_row_tests.proofs.Tested.{none_held}
use Rattle.hilti_row_tests.proofs.heap_ops.binds_no_arguments.Goals as goal

pub callable_bind-callable-requires : goal.callable_bind-callable-requires
callable_bind-callable-requires g c =
    none_held c.new-heap.result c.new-arguments.result c.new-arguments.ensures
