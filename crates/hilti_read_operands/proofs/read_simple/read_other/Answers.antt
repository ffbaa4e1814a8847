use Rattle.std.proofs.Common.{◌∙◌, sym}
use Rattle.hilti_grammar.specs.Runs.{Runs.FirstFails, Runs.Then, Runs.Follows, Runs.ToLeft, Runs.ToRight}
use Rattle.hilti_reader.proofs.Exits.{exits, gives}
use Rattle.hilti_read_types.proofs.ReadingTypes.{sees_parametric, sees_container}
use Rattle.hilti_read_operands.proofs.read_simple.read_other.Goals as goal

pub returns-in_err-plain-clause-reads : goal.returns-in_err-plain-clause-reads
returns-in_err-plain-clause-reads c = exits _ _ _ _ c.from_residual.result c.in_err-plain.field-0.0 c.from_residual.ensures.1 (Follows (ToLeft (sym c.sees.ensures ∙ c.if-sees.true) c.in_err-plain.ensures.reads))

pub returns-then-sees-clause-reads : goal.returns-then-sees-clause-reads
returns-then-sees-clause-reads c = gives _ _ _ _ _ c.in_ok-plain.ensures.one.0 (Follows (ToLeft (sym c.sees.ensures ∙ c.if-sees.true) c.in_ok-plain.ensures.reads))

pub returns-then-sees-clause-other : goal.returns-then-sees-clause-other
returns-then-sees-clause-other c = c.in_ok-plain.ensures.one.1

pub returns-in_err-place-clause-reads : goal.returns-in_err-place-clause-reads
returns-in_err-place-clause-reads c = exits _ _ _ _ c.from_residual-in_err-place.result c.in_err-place.field-0.0 c.from_residual-in_err-place.ensures.1 (Follows (ToRight (sym c.sees.ensures ∙ c.if-sees.false) (ToLeft (sym c.sees-2.ensures ∙ c.if-sees-2.true) (FirstFails c.in_err-place.ensures.reads))))

pub returns-in_err-label-clause-reads : goal.returns-in_err-label-clause-reads
returns-in_err-label-clause-reads c = exits _ _ _ _ c.from_residual-in_err-label.result c.in_err-label.field-0.0 c.from_residual-in_err-label.ensures.1 (Follows (ToRight (sym c.sees.ensures ∙ c.if-sees.false) (ToLeft (sym c.sees-2.ensures ∙ c.if-sees-2.true) (Then c.in_ok-place.ensures.reads c.in_err-label.ensures.reads))))

pub returns-then-sees-2-clause-reads : goal.returns-then-sees-2-clause-reads
returns-then-sees-2-clause-reads c = Follows (ToRight (sym c.sees.ensures ∙ c.if-sees.false) (ToLeft (sym c.sees-2.ensures ∙ c.if-sees-2.true) (Then c.in_ok-place.ensures.reads c.in_ok-label.ensures.reads)))

pub returns-in_err-parametric-clause-reads : goal.returns-in_err-parametric-clause-reads
returns-in_err-parametric-clause-reads c = exits _ _ _ _ c.from_residual-in_err-parametric.result c.in_err-parametric.field-0.0 c.from_residual-in_err-parametric.ensures.1 (Follows (ToRight (sym c.sees.ensures ∙ c.if-sees.false) (ToRight (sym c.sees-2.ensures ∙ c.if-sees-2.false) (ToLeft (sees_parametric _ _ (sym c.sees-3.ensures ∙ c.if-sees-3.true)) c.in_err-parametric.ensures.reads))))

pub returns-then-sees-3-clause-reads : goal.returns-then-sees-3-clause-reads
returns-then-sees-3-clause-reads c = Follows (ToRight (sym c.sees.ensures ∙ c.if-sees.false) (ToRight (sym c.sees-2.ensures ∙ c.if-sees-2.false) (ToLeft (sees_parametric _ _ (sym c.sees-3.ensures ∙ c.if-sees-3.true)) c.in_ok-parametric.ensures.reads)))

pub returns-in_err-container-clause-reads : goal.returns-in_err-container-clause-reads
returns-in_err-container-clause-reads c = exits _ _ _ _ c.from_residual-in_err-container.result c.in_err-container.field-0.0 c.from_residual-in_err-container.ensures.1 (Follows (ToRight (sym c.sees.ensures ∙ c.if-sees.false) (ToRight (sym c.sees-2.ensures ∙ c.if-sees-2.false) (ToRight (sees_parametric _ _ (sym c.sees-3.ensures ∙ c.if-sees-3.false)) (ToLeft (sees_container _ _ (sym c.sees-4.ensures ∙ c.if-sees-4.true)) c.in_err-container.ensures.reads)))))

pub returns-then-sees-4-clause-reads : goal.returns-then-sees-4-clause-reads
returns-then-sees-4-clause-reads c = Follows (ToRight (sym c.sees.ensures ∙ c.if-sees.false) (ToRight (sym c.sees-2.ensures ∙ c.if-sees-2.false) (ToRight (sees_parametric _ _ (sym c.sees-3.ensures ∙ c.if-sees-3.false)) (ToLeft (sees_container _ _ (sym c.sees-4.ensures ∙ c.if-sees-4.true)) c.in_ok-container.ensures.reads))))

pub returns-in_err-name-clause-reads : goal.returns-in_err-name-clause-reads
returns-in_err-name-clause-reads c = exits _ _ _ _ c.from_residual-in_err-name.result c.in_err-name.field-0.0 c.from_residual-in_err-name.ensures.1 (Follows (ToRight (sym c.sees.ensures ∙ c.if-sees.false) (ToRight (sym c.sees-2.ensures ∙ c.if-sees-2.false) (ToRight (sees_parametric _ _ (sym c.sees-3.ensures ∙ c.if-sees-3.false)) (ToRight (sees_container _ _ (sym c.sees-4.ensures ∙ c.if-sees-4.false)) (FirstFails c.in_err-name.ensures.reads))))))

pub returns-in_err-constant-clause-reads : goal.returns-in_err-constant-clause-reads
returns-in_err-constant-clause-reads c = exits _ _ _ _ c.from_residual-in_err-constant.result c.in_err-constant.field-0.0 c.from_residual-in_err-constant.ensures.1 (Follows (ToRight (sym c.sees.ensures ∙ c.if-sees.false) (ToRight (sym c.sees-2.ensures ∙ c.if-sees-2.false) (ToRight (sees_parametric _ _ (sym c.sees-3.ensures ∙ c.if-sees-3.false)) (ToRight (sees_container _ _ (sym c.sees-4.ensures ∙ c.if-sees-4.false)) (Then c.in_ok-name.ensures.reads c.in_err-constant.ensures.reads))))))

pub returns-clause-reads : goal.returns-clause-reads
returns-clause-reads c = gives _ _ _ _ _ c.named.ensures.tree (Follows (ToRight (sym c.sees.ensures ∙ c.if-sees.false) (ToRight (sym c.sees-2.ensures ∙ c.if-sees-2.false) (ToRight (sees_parametric _ _ (sym c.sees-3.ensures ∙ c.if-sees-3.false)) (ToRight (sees_container _ _ (sym c.sees-4.ensures ∙ c.if-sees-4.false)) (Then c.in_ok-name.ensures.reads c.in_ok-constant.ensures.reads))))))
