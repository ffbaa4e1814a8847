use Rattle.std.proofs.Common.{◌≤◌, length}
use Rattle.hilti_read_operands.specs.Operands.{Collects}
use Rattle.hilti_read_operands.proofs.operand_list.read_operands.Given as goal

abbrev pub invariant-operands : goal.invariant-operands
invariant-operands l = Collects l.fn.cursor l.operands l.cursor × (length l.cursor ≤ length l.fn.cursor)

abbrev pub decreases-operands : goal.decreases-operands
decreases-operands l = length l.cursor
