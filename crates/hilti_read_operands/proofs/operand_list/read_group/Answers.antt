use Rattle.std.proofs.Common.{◌∙◌, sym}
use Rattle.hilti_grammar.specs.Runs.{Runs.FirstFails, Runs.Then, Runs.Follows, Runs.ToLeft, Runs.ToRight, Runs.Leaves}
use Rattle.hilti_reader.proofs.Exits.{exits, gives}
use Rattle.hilti_read_operands.proofs.Operands.{group_some}
use Rattle.std.proofs.Common.{ap}
use Rattle.hilti_read_operands.specs.Operands.{group_tree}
use Rattle.hilti_read_operands.proofs.operand_list.read_group.Goals as goal

pub returns-in_err-place-clause-reads : goal.returns-in_err-place-clause-reads
returns-in_err-place-clause-reads c = exits _ _ _ _ c.from_residual.result c.in_err-place.field-0.0 c.from_residual.ensures.1 (Follows (FirstFails c.in_err-place.ensures.reads))

pub returns-in_err-skip-clause-reads : goal.returns-in_err-skip-clause-reads
returns-in_err-skip-clause-reads c = exits _ _ _ _ c.from_residual-in_err-skip.result c.in_err-skip.field-0.0 c.from_residual-in_err-skip.ensures.1 (Follows (Then c.in_ok-place.ensures.reads (Then (ToRight (sym c.begins_simple.ensures ∙ c.if-not-begins_simple.true) Leaves) c.in_err-skip.ensures.reads)))

pub returns-then-not-begins_simple-clause-reads : goal.returns-then-not-begins_simple-clause-reads
returns-then-not-begins_simple-clause-reads c = gives _ _ _ _ _ (ap (group_tree _) c.new-nothing.ensures) (Follows (Then c.in_ok-place.ensures.reads (Then (ToRight (sym c.begins_simple.ensures ∙ c.if-not-begins_simple.true) Leaves) c.in_ok-skip.ensures.reads)))

pub returns-in_err-items-clause-reads : goal.returns-in_err-items-clause-reads
returns-in_err-items-clause-reads c = exits _ _ _ _ c.from_residual-in_err-items.result c.in_err-items.field-0.0 c.from_residual-in_err-items.ensures.1 (Follows (Then c.in_ok-place.ensures.reads (FirstFails (ToLeft (sym c.begins_simple.ensures ∙ c.if-not-begins_simple.false) c.in_err-items.ensures.reads))))

pub returns-in_err-skip-2-clause-reads : goal.returns-in_err-skip-2-clause-reads
returns-in_err-skip-2-clause-reads c = exits _ _ _ _ c.from_residual-in_err-skip-2.result c.in_err-skip-2.field-0.0 c.from_residual-in_err-skip-2.ensures.1 (Follows (Then c.in_ok-place.ensures.reads (Then (ToLeft (sym c.begins_simple.ensures ∙ c.if-not-begins_simple.false) c.in_ok-items.ensures.reads) c.in_err-skip-2.ensures.reads)))

pub returns-clause-reads : goal.returns-clause-reads
returns-clause-reads c = gives _ _ _ _ _ (group_some _ _ c.in_ok-items.ensures.some) (Follows (Then c.in_ok-place.ensures.reads (Then (ToLeft (sym c.begins_simple.ensures ∙ c.if-not-begins_simple.false) c.in_ok-items.ensures.reads) c.in_ok-skip-2.ensures.reads)))
