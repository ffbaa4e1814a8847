use Rattle.std.proofs.Common.{◌∙◌, sym}
use Rattle.hilti_read_operands.proofs.Operands.{begins_by_paren, begins_by_simple}
use Rattle.hilti_read_operands.proofs.operand_list.begins_operand.Goals as goal

pub returns-then-sees : goal.returns-then-sees
returns-then-sees c = sym (begins_by_paren _ (sym c.sees.ensures ∙ c.if-sees.true))

pub returns : goal.returns
returns c = sym (begins_by_simple _ _ (sym c.sees.ensures ∙ c.if-sees.false) (sym c.begins_simple.ensures))
