use Rattle.std.proofs.Common.{sym, subst, None}
use Rattle.hilti_heap.specs.Stands.{Goes}
use Rattle.hilti_heap_ops.specs.Meaning.{struct_unset}
use Rattle.hilti_heap_ops.proofs.structs.struct_unset.Goals as goal

pub returns-in-Ref : goal.returns-in-Ref
returns-in-Ref c =
    subst (λ v. Goes (struct_unset v c.args.at) None c.args.heap.now c.unset.new.heap)
    (sym c.in-Ref.is) c.unset.ensures
