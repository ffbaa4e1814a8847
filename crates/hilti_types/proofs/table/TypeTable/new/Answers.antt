use Rattle.hilti_types.proofs.Keeping.{kept_of_none}
use Rattle.hilti_types.proofs.table.TypeTable.new.Goals as goal

pub invariant_of-result : goal.invariant_of-result
invariant_of-result c =
    kept_of_none c.new.result c.new-2.result.items c.new.ensures c.new-2.ensures.items
