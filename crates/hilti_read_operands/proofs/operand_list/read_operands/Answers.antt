use Rattle.std.proofs.Common.{◌∙◌, sym}
use Rattle.hilti_reader.proofs.Exits.{exits, gives_up}
use Rattle.hilti_read_operands.proofs.Operands.{collects_begin, collects_next, collects_fail, collects_end, shrinks_more}
use Rattle.std.proofs.Common.{arith}
use Rattle.hilti_read_operands.proofs.operand_list.read_operands.Goals as goal

pub operands-init : goal.operands-init
operands-init c = (collects_begin _ _ c.new-operands.ensures, omega arith)

pub returns-in_err-next-clause-reads : goal.returns-in_err-next-clause-reads
returns-in_err-next-clause-reads c = exits _ _ _ _ c.from_residual.result c.in_err-next.field-0.0 c.from_residual.ensures.1 (collects_fail _ _ _ c.operands.operands _ c.operands.invariant.0 c.in_err-next.ensures.reads)

pub returns-in_err-push-clause-reads : goal.returns-in_err-push-clause-reads
returns-in_err-push-clause-reads c = gives_up _ _ _ _ c.from_residual-in_err-push.result c.from_residual-in_err-push.ensures.1

pub operands-preserved : goal.operands-preserved
operands-preserved c = (collects_next _ _ _ c.operands.operands _ c.in_ok-next.next c.in_ok-push.ensures.ok c.operands.invariant.0 c.in_ok-next.ensures.reads, shrinks_more _ _ _ c.operands.invariant.1 c.in_ok-next.ensures.shorter)

pub returns-clause-reads : goal.returns-clause-reads
returns-clause-reads c = collects_end _ _ c.operands.operands c.operands.invariant.0 (sym c.begins_operand.ensures ∙ c.operands-test.false)
