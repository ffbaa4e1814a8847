use Rattle.std.proofs.Common.{◌∙◌, sym}
use Rattle.hilti_grammar.specs.Runs.{Runs.FirstFails, Runs.Then, Runs.Follows, Runs.ToLeft, Runs.ToRight}
use Rattle.hilti_read_operands.proofs.Operands.{steps_exit, group_step, other_step, alone_step, number_step, sees_paren, sees_others, another_begins}
use Rattle.hilti_read_operands.proofs.operand_list.read_operand.Goals as goal

pub returns-in_err-place-clause-reads : goal.returns-in_err-place-clause-reads
returns-in_err-place-clause-reads c = steps_exit _ _ c.from_residual.result c.in_err-place.field-0.0 c.from_residual.ensures.1 (Follows (ToLeft (sees_paren _ _ (sym c.sees.ensures ∙ c.if-sees.true)) (FirstFails c.in_err-place.ensures.reads)))

pub returns-then-sees-clause-reads : goal.returns-then-sees-clause-reads
returns-then-sees-clause-reads c = group_step _ _ _ _ (sym c.sees.ensures ∙ c.if-sees.true) c.in_ok-place.ensures.reads

pub returns-in_err-word-clause-reads : goal.returns-in_err-word-clause-reads
returns-in_err-word-clause-reads c = steps_exit _ _ c.from_residual-in_err-word.result c.in_err-word.field-0.0 c.from_residual-in_err-word.ensures.1 (Follows (ToRight (sees_paren _ _ (sym c.sees.ensures ∙ c.if-sees.false)) (ToLeft (sym c.sees-2.ensures ∙ c.if-sees-2.true) (FirstFails c.in_err-word.ensures.reads))))

pub returns-then-not-sees-clause-reads : goal.returns-then-not-sees-clause-reads
returns-then-not-sees-clause-reads c = alone_step _ _ _ _ c.timed.ensures (sym c.sees.ensures ∙ c.if-sees.false) (sym c.sees-2.ensures ∙ c.if-sees-2.true) c.in_ok-word.ensures.reads (sym c.sees-then-sees-2.ensures ∙ c.if-not-sees.true)

pub returns-in_err-seconds-clause-reads : goal.returns-in_err-seconds-clause-reads
returns-in_err-seconds-clause-reads c = steps_exit _ _ c.from_residual-in_err-seconds.result c.in_err-seconds.field-0.0 c.from_residual-in_err-seconds.ensures.1 (Follows (ToRight (sees_paren _ _ (sym c.sees.ensures ∙ c.if-sees.false)) (ToLeft (sym c.sees-2.ensures ∙ c.if-sees-2.true) (Then c.in_ok-word.ensures.reads (Follows (ToLeft (sym c.sees-then-sees-2.ensures ∙ c.if-not-sees.false) (FirstFails c.in_err-seconds.ensures.reads)))))))

pub returns-then-sees-2-clause-reads : goal.returns-then-sees-2-clause-reads
returns-then-sees-2-clause-reads c = number_step _ _ _ _ _ _ c.timed-then-sees-2.ensures (sym c.sees.ensures ∙ c.if-sees.false) (sym c.sees-2.ensures ∙ c.if-sees-2.true) c.in_ok-word.ensures.reads (sym c.sees-then-sees-2.ensures ∙ c.if-not-sees.false) c.in_ok-seconds.ensures.reads

pub returns-in_err-other-clause-reads : goal.returns-in_err-other-clause-reads
returns-in_err-other-clause-reads c = steps_exit _ _ c.from_residual-in_err-other.result c.in_err-other.field-0.0 c.from_residual-in_err-other.ensures.1 (Follows (ToRight (sees_paren _ _ (sym c.sees.ensures ∙ c.if-sees.false)) (ToRight (sym c.sees-2.ensures ∙ c.if-sees-2.false) (ToLeft (sees_others _ _ (another_begins _ c.requires (sym c.sees.ensures ∙ c.if-sees.false) (sym c.sees-2.ensures ∙ c.if-sees-2.false))) (FirstFails c.in_err-other.ensures.reads)))))

pub returns-clause-reads : goal.returns-clause-reads
returns-clause-reads c = other_step _ _ _ c.in_ok-other.ensures.other (sym c.sees.ensures ∙ c.if-sees.false) (sym c.sees-2.ensures ∙ c.if-sees-2.false) (another_begins _ c.requires (sym c.sees.ensures ∙ c.if-sees.false) (sym c.sees-2.ensures ∙ c.if-sees-2.false)) c.in_ok-other.ensures.reads
