use Rattle.std.proofs.Common.{◌∙◌, sym}
use Rattle.hilti_grammar.specs.Runs.{Runs.ToLeft, Runs.ToRight, Runs.Leaves}
use Rattle.hilti_reader.proofs.Exits.{exits}
use Rattle.hilti_read_literals.proofs.read_literals.read_maybe_seconds.Goals as goal

pub returns-then-not-sees-clause-reads : goal.returns-then-not-sees-clause-reads
returns-then-not-sees-clause-reads c = ToRight (sym c.sees.ensures ∙ c.if-not-sees.true) Leaves

pub returns-in_err-seconds-clause-reads : goal.returns-in_err-seconds-clause-reads
returns-in_err-seconds-clause-reads c = exits _ _ _ _ c.from_residual.result c.in_err-seconds.field-0.0 c.from_residual.ensures.1 (ToLeft (sym c.sees.ensures ∙ c.if-not-sees.false) c.in_err-seconds.ensures.reads)

pub returns-clause-reads : goal.returns-clause-reads
returns-clause-reads c = ToLeft (sym c.sees.ensures ∙ c.if-not-sees.false) c.in_ok-seconds.ensures.reads
