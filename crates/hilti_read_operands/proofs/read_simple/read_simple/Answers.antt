use Rattle.std.proofs.Common.{◌∙◌, sym}
use Rattle.hilti_grammar.specs.Runs.{Runs.FirstFails, Runs.Then, Runs.Follows, Runs.ToLeft, Runs.ToRight}
use Rattle.hilti_reader.proofs.Exits.{exits, gives}
use Rattle.hilti_read_operands.proofs.Operands.{simple_timed, simple_other}
use Rattle.hilti_read_operands.proofs.read_simple.read_simple.Goals as goal

pub returns-in_err-word-clause-reads : goal.returns-in_err-word-clause-reads
returns-in_err-word-clause-reads c = exits _ _ _ _ c.from_residual.result c.in_err-word.field-0.0 c.from_residual.ensures.1 (Follows (ToLeft (sym c.sees.ensures ∙ c.if-sees.true) (FirstFails c.in_err-word.ensures.reads)))

pub returns-in_err-seconds-clause-reads : goal.returns-in_err-seconds-clause-reads
returns-in_err-seconds-clause-reads c = exits _ _ _ _ c.from_residual-in_err-seconds.result c.in_err-seconds.field-0.0 c.from_residual-in_err-seconds.ensures.1 (Follows (ToLeft (sym c.sees.ensures ∙ c.if-sees.true) (Then c.in_ok-word.ensures.reads c.in_err-seconds.ensures.reads)))

pub returns-then-sees-clause-reads : goal.returns-then-sees-clause-reads
returns-then-sees-clause-reads c = gives _ _ _ _ _ (simple_timed _ _ _ c.timed.ensures) (Follows (ToLeft (sym c.sees.ensures ∙ c.if-sees.true) (Then c.in_ok-word.ensures.reads c.in_ok-seconds.ensures.reads)))

pub returns-in_err-other-clause-reads : goal.returns-in_err-other-clause-reads
returns-in_err-other-clause-reads c = exits _ _ _ _ c.from_residual-in_err-other.result c.in_err-other.field-0.0 c.from_residual-in_err-other.ensures.1 (Follows (ToRight (sym c.sees.ensures ∙ c.if-sees.false) c.in_err-other.ensures.reads))

pub returns-clause-reads : goal.returns-clause-reads
returns-clause-reads c = gives _ _ _ _ _ (simple_other _ c.in_ok-other.ensures.other) (Follows (ToRight (sym c.sees.ensures ∙ c.if-sees.false) c.in_ok-other.ensures.reads))
