use Rattle.std.proofs.Common.{◌∙◌, sym}
use Rattle.hilti_read_operands.proofs.Operands.{begins_by_time, begins_by_others}
use Rattle.hilti_read_operands.proofs.operand_list.begins_simple.Goals as goal

pub returns-then-sees : goal.returns-then-sees
returns-then-sees c = sym (begins_by_time _ (sym c.sees.ensures ∙ c.if-sees.true))

pub returns : goal.returns
returns c = sym (begins_by_others _ _ (sym c.sees.ensures ∙ c.if-sees.false) (sym c.sees-2.ensures))
