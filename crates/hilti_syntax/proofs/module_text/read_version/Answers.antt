use Rattle.std.proofs.Common.{◌∙◌, sym}
use Rattle.hilti_grammar.specs.Runs.{Runs.FirstFails, Runs.Then, Runs.ToLeft, Runs.ToRight, Runs.Leaves}
use Rattle.hilti_reader.proofs.Exits.{exits}
use Rattle.hilti_syntax.proofs.module_text.read_version.Goals as goal

pub returns-then-not-sees-clause-reads : goal.returns-then-not-sees-clause-reads
returns-then-not-sees-clause-reads c = ToRight (sym c.sees.ensures ∙ c.if-not-sees.true) Leaves

pub returns-in_err-skip-clause-reads : goal.returns-in_err-skip-clause-reads
returns-in_err-skip-clause-reads c =
    exits _ _ _ _ c.from_residual.result c.in_err-skip.field-0.0 c.from_residual.ensures.1
    (ToLeft (sym c.sees.ensures ∙ c.if-not-sees.false) (FirstFails c.in_err-skip.ensures.reads))

pub returns-in_err-found-clause-reads : goal.returns-in_err-found-clause-reads
returns-in_err-found-clause-reads c =
    exits _ _ _ _ c.from_residual-in_err-found.result c.in_err-found.field-0.0 c.from_residual-in_err-found.ensures.1
    (ToLeft (sym c.sees.ensures ∙ c.if-not-sees.false) (Then c.in_ok-skip.ensures.reads c.in_err-found.ensures.reads))

pub returns-clause-reads : goal.returns-clause-reads
returns-clause-reads c = ToLeft (sym c.sees.ensures ∙ c.if-not-sees.false) (Then c.in_ok-skip.ensures.reads c.in_ok-found.ensures.reads)
