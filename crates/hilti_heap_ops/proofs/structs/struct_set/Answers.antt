use Rattle.std.proofs.Common.{sym, subst, None}
use Rattle.hilti_heap.specs.Stands.{Goes}
use Rattle.hilti_heap_ops.specs.Meaning.{struct_set}
use Rattle.hilti_heap_ops.proofs.structs.struct_set.Goals as goal

pub returns-in_ok-set-in-Ref : goal.returns-in_ok-set-in-Ref
returns-in_ok-set-in-Ref c =
    subst (λ v. Goes (struct_set v c.args.at c.args.item.now) None c.args.heap.now c.set.new.heap)
    (sym c.in-Ref.is) c.in_ok-set-in-Ref.ensures
