use Rattle.std.proofs.Common.{◌∙◌, sym}
use Rattle.hilti_grammar.specs.Runs.{Runs.ToLeft, Runs.ToRight}
use Rattle.hilti_reader.proofs.Exits.{exits}
use Rattle.hilti_syntax.proofs.read_items.read_result.Goals as goal

pub returns-in_err-skip-clause-reads : goal.returns-in_err-skip-clause-reads
returns-in_err-skip-clause-reads c =
    exits _ _ _ _ c.from_residual.result c.in_err-skip.field-0.0 c.from_residual.ensures.1
    (ToLeft (sym c.sees.ensures ∙ c.if-sees.true) c.in_err-skip.ensures.reads)

pub returns-then-sees-clause-reads : goal.returns-then-sees-clause-reads
returns-then-sees-clause-reads c = ToLeft (sym c.sees.ensures ∙ c.if-sees.true) c.in_ok-skip.ensures.reads

pub returns-in_err-kind-clause-reads : goal.returns-in_err-kind-clause-reads
returns-in_err-kind-clause-reads c =
    exits _ _ _ _ c.from_residual-in_err-kind.result c.in_err-kind.field-0.0 c.from_residual-in_err-kind.ensures.1
    (ToRight (sym c.sees.ensures ∙ c.if-sees.false) c.in_err-kind.ensures.reads)

pub returns-clause-reads : goal.returns-clause-reads
returns-clause-reads c = ToRight (sym c.sees.ensures ∙ c.if-sees.false) c.in_ok-kind.ensures.reads
