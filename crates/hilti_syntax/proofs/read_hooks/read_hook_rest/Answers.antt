use Rattle.std.proofs.Common.{◌∙◌, sym}
use Rattle.hilti_grammar.specs.Runs.{Runs.FirstFails, Runs.Then, Runs.Follows, Runs.ToLeft, Runs.ToRight}
use Rattle.hilti_reader.proofs.Exits.{exits}
use Rattle.hilti_syntax.proofs.read_hooks.read_hook_rest.Goals as goal

pub returns-in_err-skip-clause-reads : goal.returns-in_err-skip-clause-reads
returns-in_err-skip-clause-reads c =
    exits _ _ _ _ c.from_residual.result c.in_err-skip.field-0.0 c.from_residual.ensures.1
    (Follows (ToLeft (sym c.sees.ensures ∙ c.if-sees.true) (FirstFails c.in_err-skip.ensures.reads)))

pub returns-in_err-second-clause-reads : goal.returns-in_err-second-clause-reads
returns-in_err-second-clause-reads c =
    exits _ _ _ _ c.from_residual-in_err-second.result c.in_err-second.field-0.0 c.from_residual-in_err-second.ensures.1
    (Follows (ToLeft (sym c.sees.ensures ∙ c.if-sees.true) (Then c.in_ok-skip.ensures.reads (FirstFails c.in_err-second.ensures.reads))))

pub returns-in_err-parameters-clause-reads : goal.returns-in_err-parameters-clause-reads
returns-in_err-parameters-clause-reads c =
    exits _ _ _ _ c.from_residual-in_err-parameters.result c.in_err-parameters.field-0.0 c.from_residual-in_err-parameters.ensures.1
    (Follows (ToLeft (sym c.sees.ensures ∙ c.if-sees.true) (Then c.in_ok-skip.ensures.reads (Then c.in_ok-second.ensures.reads (FirstFails c.in_err-parameters.ensures.reads)))))

pub returns-in_err-priority-clause-reads : goal.returns-in_err-priority-clause-reads
returns-in_err-priority-clause-reads c =
    exits _ _ _ _ c.from_residual-in_err-priority.result c.in_err-priority.field-0.0 c.from_residual-in_err-priority.ensures.1
    (Follows (ToLeft (sym c.sees.ensures ∙ c.if-sees.true) (Then c.in_ok-skip.ensures.reads (Then c.in_ok-second.ensures.reads (Then c.in_ok-parameters.ensures.reads c.in_err-priority.ensures.reads)))))

pub returns-then-sees-clause-reads : goal.returns-then-sees-clause-reads
returns-then-sees-clause-reads c = Follows (ToLeft (sym c.sees.ensures ∙ c.if-sees.true) (Then c.in_ok-skip.ensures.reads (Then c.in_ok-second.ensures.reads (Then c.in_ok-parameters.ensures.reads c.in_ok-priority.ensures.reads))))

pub returns-in_err-arguments-clause-reads : goal.returns-in_err-arguments-clause-reads
returns-in_err-arguments-clause-reads c =
    exits _ _ _ _ c.from_residual-in_err-arguments.result c.in_err-arguments.field-0.0 c.from_residual-in_err-arguments.ensures.1
    (Follows (ToRight (sym c.sees.ensures ∙ c.if-sees.false) (FirstFails c.in_err-arguments.ensures.reads)))

pub returns-in_err-skip-2-clause-reads : goal.returns-in_err-skip-2-clause-reads
returns-in_err-skip-2-clause-reads c =
    exits _ _ _ _ c.from_residual-in_err-skip-2.result c.in_err-skip-2.field-0.0 c.from_residual-in_err-skip-2.ensures.1
    (Follows (ToRight (sym c.sees.ensures ∙ c.if-sees.false) (Then c.in_ok-arguments.ensures.reads (ToLeft (sym c.sees-2.ensures ∙ c.if-sees-2.true) c.in_err-skip-2.ensures.reads))))

pub returns-then-sees-2-clause-reads : goal.returns-then-sees-2-clause-reads
returns-then-sees-2-clause-reads c = Follows (ToRight (sym c.sees.ensures ∙ c.if-sees.false) (Then c.in_ok-arguments.ensures.reads (ToLeft (sym c.sees-2.ensures ∙ c.if-sees-2.true) c.in_ok-skip-2.ensures.reads)))

pub returns-in_err-rank-clause-reads : goal.returns-in_err-rank-clause-reads
returns-in_err-rank-clause-reads c =
    exits _ _ _ _ c.from_residual-in_err-rank.result c.in_err-rank.field-0.0 c.from_residual-in_err-rank.ensures.1
    (Follows (ToRight (sym c.sees.ensures ∙ c.if-sees.false) (Then c.in_ok-arguments.ensures.reads (ToRight (sym c.sees-2.ensures ∙ c.if-sees-2.false) c.in_err-rank.ensures.reads))))

pub returns-clause-reads : goal.returns-clause-reads
returns-clause-reads c = Follows (ToRight (sym c.sees.ensures ∙ c.if-sees.false) (Then c.in_ok-arguments.ensures.reads (ToRight (sym c.sees-2.ensures ∙ c.if-sees-2.false) c.in_ok-rank.ensures.reads)))
