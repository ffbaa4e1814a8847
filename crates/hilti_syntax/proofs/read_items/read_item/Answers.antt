use Rattle.std.proofs.Common.{◌∙◌, sym}
use Rattle.hilti_grammar.specs.Runs.{Runs.FirstFails, Runs.Then, Runs.Follows, Runs.ToLeft, Runs.ToRight}
use Rattle.hilti_reader.proofs.Exits.{exits, gives}
use Rattle.hilti_syntax.proofs.read_items.read_item.Goals as goal

pub returns-in_err-skip-clause-reads : goal.returns-in_err-skip-clause-reads
returns-in_err-skip-clause-reads c =
    exits _ _ _ _ c.from_residual.result c.in_err-skip.field-0.0 c.from_residual.ensures.1
    (Follows (ToLeft (sym c.sees.ensures ∙ c.if-sees.true) (FirstFails c.in_err-skip.ensures.reads)))

pub returns-in_err-name-clause-reads : goal.returns-in_err-name-clause-reads
returns-in_err-name-clause-reads c =
    exits _ _ _ _ c.from_residual-in_err-name.result c.in_err-name.field-0.0 c.from_residual-in_err-name.ensures.1
    (Follows (ToLeft (sym c.sees.ensures ∙ c.if-sees.true) (Then c.in_ok-skip.ensures.reads (FirstFails c.in_err-name.ensures.reads))))

pub returns-in_err-skip-2-clause-reads : goal.returns-in_err-skip-2-clause-reads
returns-in_err-skip-2-clause-reads c =
    exits _ _ _ _ c.from_residual-in_err-skip-2.result c.in_err-skip-2.field-0.0 c.from_residual-in_err-skip-2.ensures.1
    (Follows (ToLeft (sym c.sees.ensures ∙ c.if-sees.true) (Then c.in_ok-skip.ensures.reads (Then c.in_ok-name.ensures.reads (FirstFails c.in_err-skip-2.ensures.reads)))))

pub returns-in_err-shape-clause-reads : goal.returns-in_err-shape-clause-reads
returns-in_err-shape-clause-reads c =
    exits _ _ _ _ c.from_residual-in_err-shape.result c.in_err-shape.field-0.0 c.from_residual-in_err-shape.ensures.1
    (Follows (ToLeft (sym c.sees.ensures ∙ c.if-sees.true) (Then c.in_ok-skip.ensures.reads (Then c.in_ok-name.ensures.reads (Then c.in_ok-skip-2.ensures.reads (FirstFails c.in_err-shape.ensures.reads))))))

pub returns-in_err-skip-3-clause-reads : goal.returns-in_err-skip-3-clause-reads
returns-in_err-skip-3-clause-reads c =
    exits _ _ _ _ c.from_residual-in_err-skip-3.result c.in_err-skip-3.field-0.0 c.from_residual-in_err-skip-3.ensures.1
    (Follows (ToLeft (sym c.sees.ensures ∙ c.if-sees.true) (Then c.in_ok-skip.ensures.reads (Then c.in_ok-name.ensures.reads (Then c.in_ok-skip-2.ensures.reads (Then c.in_ok-shape.ensures.reads c.in_err-skip-3.ensures.reads))))))

pub returns-then-sees-clause-reads : goal.returns-then-sees-clause-reads
returns-then-sees-clause-reads c = Follows (ToLeft (sym c.sees.ensures ∙ c.if-sees.true) (Then c.in_ok-skip.ensures.reads (Then c.in_ok-name.ensures.reads (Then c.in_ok-skip-2.ensures.reads (Then c.in_ok-shape.ensures.reads c.in_ok-skip-3.ensures.reads)))))

pub returns-in_err-skip-4-clause-reads : goal.returns-in_err-skip-4-clause-reads
returns-in_err-skip-4-clause-reads c =
    exits _ _ _ _ c.from_residual-in_err-skip-4.result c.in_err-skip-4.field-0.0 c.from_residual-in_err-skip-4.ensures.1
    (Follows (ToRight (sym c.sees.ensures ∙ c.if-sees.false) (ToLeft (sym c.sees-2.ensures ∙ c.if-sees-2.true) (FirstFails c.in_err-skip-4.ensures.reads))))

pub returns-in_err-kind-clause-reads : goal.returns-in_err-kind-clause-reads
returns-in_err-kind-clause-reads c =
    exits _ _ _ _ c.from_residual-in_err-kind.result c.in_err-kind.field-0.0 c.from_residual-in_err-kind.ensures.1
    (Follows (ToRight (sym c.sees.ensures ∙ c.if-sees.false) (ToLeft (sym c.sees-2.ensures ∙ c.if-sees-2.true) (Then c.in_ok-skip-4.ensures.reads (FirstFails c.in_err-kind.ensures.reads)))))

pub returns-in_err-value-clause-reads : goal.returns-in_err-value-clause-reads
returns-in_err-value-clause-reads c =
    exits _ _ _ _ c.from_residual-in_err-value.result c.in_err-value.field-0.0 c.from_residual-in_err-value.ensures.1
    (Follows (ToRight (sym c.sees.ensures ∙ c.if-sees.false) (ToLeft (sym c.sees-2.ensures ∙ c.if-sees-2.true) (Then c.in_ok-skip-4.ensures.reads (Then c.in_ok-kind.ensures.reads (FirstFails c.in_err-value.ensures.reads))))))

pub returns-in_err-skip-5-clause-reads : goal.returns-in_err-skip-5-clause-reads
returns-in_err-skip-5-clause-reads c =
    exits _ _ _ _ c.from_residual-in_err-skip-5.result c.in_err-skip-5.field-0.0 c.from_residual-in_err-skip-5.ensures.1
    (Follows (ToRight (sym c.sees.ensures ∙ c.if-sees.false) (ToLeft (sym c.sees-2.ensures ∙ c.if-sees-2.true) (Then c.in_ok-skip-4.ensures.reads (Then c.in_ok-kind.ensures.reads (Then c.in_ok-value.ensures.reads c.in_err-skip-5.ensures.reads))))))

pub returns-then-sees-2-clause-reads : goal.returns-then-sees-2-clause-reads
returns-then-sees-2-clause-reads c = Follows (ToRight (sym c.sees.ensures ∙ c.if-sees.false) (ToLeft (sym c.sees-2.ensures ∙ c.if-sees-2.true) (Then c.in_ok-skip-4.ensures.reads (Then c.in_ok-kind.ensures.reads (Then c.in_ok-value.ensures.reads c.in_ok-skip-5.ensures.reads)))))

pub returns-in_err-skip-6-clause-reads : goal.returns-in_err-skip-6-clause-reads
returns-in_err-skip-6-clause-reads c =
    exits _ _ _ _ c.from_residual-in_err-skip-6.result c.in_err-skip-6.field-0.0 c.from_residual-in_err-skip-6.ensures.1
    (Follows (ToRight (sym c.sees.ensures ∙ c.if-sees.false) (ToRight (sym c.sees-2.ensures ∙ c.if-sees-2.false) (ToLeft (sym c.sees-3.ensures ∙ c.if-sees-3.true) (FirstFails c.in_err-skip-6.ensures.reads)))))

pub returns-in_err-first-clause-reads : goal.returns-in_err-first-clause-reads
returns-in_err-first-clause-reads c =
    exits _ _ _ _ c.from_residual-in_err-first.result c.in_err-first.field-0.0 c.from_residual-in_err-first.ensures.1
    (Follows (ToRight (sym c.sees.ensures ∙ c.if-sees.false) (ToRight (sym c.sees-2.ensures ∙ c.if-sees-2.false) (ToLeft (sym c.sees-3.ensures ∙ c.if-sees-3.true) (Then c.in_ok-skip-6.ensures.reads (FirstFails c.in_err-first.ensures.reads))))))

pub returns-in_err-hook-clause-reads : goal.returns-in_err-hook-clause-reads
returns-in_err-hook-clause-reads c =
    exits _ _ _ _ c.from_residual-in_err-hook.result c.in_err-hook.field-0.0 c.from_residual-in_err-hook.ensures.1
    (Follows (ToRight (sym c.sees.ensures ∙ c.if-sees.false) (ToRight (sym c.sees-2.ensures ∙ c.if-sees-2.false) (ToLeft (sym c.sees-3.ensures ∙ c.if-sees-3.true) (Then c.in_ok-skip-6.ensures.reads (Then c.in_ok-first.ensures.reads c.in_err-hook.ensures.reads))))))

pub returns-then-sees-3-clause-reads : goal.returns-then-sees-3-clause-reads
returns-then-sees-3-clause-reads c = gives _ _ _ _ _ c.in_ok-hook.ensures.item (Follows (ToRight (sym c.sees.ensures ∙ c.if-sees.false) (ToRight (sym c.sees-2.ensures ∙ c.if-sees-2.false) (ToLeft (sym c.sees-3.ensures ∙ c.if-sees-3.true) (Then c.in_ok-skip-6.ensures.reads (Then c.in_ok-first.ensures.reads c.in_ok-hook.ensures.reads))))))

pub returns-in_err-result-clause-reads : goal.returns-in_err-result-clause-reads
returns-in_err-result-clause-reads c =
    exits _ _ _ _ c.from_residual-in_err-result.result c.in_err-result.field-0.0 c.from_residual-in_err-result.ensures.1
    (Follows (ToRight (sym c.sees.ensures ∙ c.if-sees.false) (ToRight (sym c.sees-2.ensures ∙ c.if-sees-2.false) (ToRight (sym c.sees-3.ensures ∙ c.if-sees-3.false) (FirstFails c.in_err-result.ensures.reads)))))

pub returns-in_err-called-clause-reads : goal.returns-in_err-called-clause-reads
returns-in_err-called-clause-reads c =
    exits _ _ _ _ c.from_residual-in_err-called.result c.in_err-called.field-0.0 c.from_residual-in_err-called.ensures.1
    (Follows (ToRight (sym c.sees.ensures ∙ c.if-sees.false) (ToRight (sym c.sees-2.ensures ∙ c.if-sees-2.false) (ToRight (sym c.sees-3.ensures ∙ c.if-sees-3.false) (Then c.in_ok-result.ensures.reads (FirstFails c.in_err-called.ensures.reads))))))

pub returns-in_err-parameters-clause-reads : goal.returns-in_err-parameters-clause-reads
returns-in_err-parameters-clause-reads c =
    exits _ _ _ _ c.from_residual-in_err-parameters.result c.in_err-parameters.field-0.0 c.from_residual-in_err-parameters.ensures.1
    (Follows (ToRight (sym c.sees.ensures ∙ c.if-sees.false) (ToRight (sym c.sees-2.ensures ∙ c.if-sees-2.false) (ToRight (sym c.sees-3.ensures ∙ c.if-sees-3.false) (Then c.in_ok-result.ensures.reads (Then c.in_ok-called.ensures.reads (FirstFails c.in_err-parameters.ensures.reads)))))))

pub returns-in_err-body-clause-reads : goal.returns-in_err-body-clause-reads
returns-in_err-body-clause-reads c =
    exits _ _ _ _ c.from_residual-in_err-body.result c.in_err-body.field-0.0 c.from_residual-in_err-body.ensures.1
    (Follows (ToRight (sym c.sees.ensures ∙ c.if-sees.false) (ToRight (sym c.sees-2.ensures ∙ c.if-sees-2.false) (ToRight (sym c.sees-3.ensures ∙ c.if-sees-3.false) (Then c.in_ok-result.ensures.reads (Then c.in_ok-called.ensures.reads (Then c.in_ok-parameters.ensures.reads c.in_err-body.ensures.reads)))))))

pub returns-clause-reads : goal.returns-clause-reads
returns-clause-reads c = Follows (ToRight (sym c.sees.ensures ∙ c.if-sees.false) (ToRight (sym c.sees-2.ensures ∙ c.if-sees-2.false) (ToRight (sym c.sees-3.ensures ∙ c.if-sees-3.false) (Then c.in_ok-result.ensures.reads (Then c.in_ok-called.ensures.reads (Then c.in_ok-parameters.ensures.reads c.in_ok-body.ensures.reads))))))
