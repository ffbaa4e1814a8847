use Rattle.std.proofs.Common.{◌∙◌, sym}
use Rattle.hilti_grammar.specs.Runs.{Runs.FirstFails, Runs.Then, Runs.Follows, Runs.ToLeft, Runs.ToRight}
use Rattle.hilti_reader.proofs.Exits.{exits}
use Rattle.hilti_syntax.proofs.Lines.{plain_line}
use Rattle.hilti_syntax.proofs.read_lines.read_after_word.Goals as goal

pub returns-in_err-skip-clause-reads : goal.returns-in_err-skip-clause-reads
returns-in_err-skip-clause-reads c =
    exits _ _ _ _ c.from_residual.result c.in_err-skip.field-0.0 c.from_residual.ensures.1
    (Follows (ToLeft (sym c.sees.ensures ∙ c.if-sees.true) (FirstFails c.in_err-skip.ensures.reads)))

pub returns-in_err-second-clause-reads : goal.returns-in_err-second-clause-reads
returns-in_err-second-clause-reads c =
    exits _ _ _ _ c.from_residual-in_err-second.result c.in_err-second.field-0.0 c.from_residual-in_err-second.ensures.1
    (Follows (ToLeft (sym c.sees.ensures ∙ c.if-sees.true) (Then c.in_ok-skip.ensures.reads (FirstFails c.in_err-second.ensures.reads))))

pub returns-in_err-skip-2-clause-reads : goal.returns-in_err-skip-2-clause-reads
returns-in_err-skip-2-clause-reads c =
    exits _ _ _ _ c.from_residual-in_err-skip-2.result c.in_err-skip-2.field-0.0 c.from_residual-in_err-skip-2.ensures.1
    (Follows (ToLeft (sym c.sees.ensures ∙ c.if-sees.true) (Then c.in_ok-skip.ensures.reads (Then c.in_ok-second.ensures.reads (FirstFails c.in_err-skip-2.ensures.reads)))))

pub returns-in_err-assigned-clause-reads : goal.returns-in_err-assigned-clause-reads
returns-in_err-assigned-clause-reads c =
    exits _ _ _ _ c.from_residual-in_err-assigned.result c.in_err-assigned.field-0.0 c.from_residual-in_err-assigned.ensures.1
    (Follows (ToLeft (sym c.sees.ensures ∙ c.if-sees.true) (Then c.in_ok-skip.ensures.reads (Then c.in_ok-second.ensures.reads (Then c.in_ok-skip-2.ensures.reads c.in_err-assigned.ensures.reads)))))

pub returns-then-sees-clause-reads : goal.returns-then-sees-clause-reads
returns-then-sees-clause-reads c = Follows (ToLeft (sym c.sees.ensures ∙ c.if-sees.true) (Then c.in_ok-skip.ensures.reads (Then c.in_ok-second.ensures.reads (Then c.in_ok-skip-2.ensures.reads c.in_ok-assigned.ensures.reads))))

pub returns-in_err-skip-3-clause-reads : goal.returns-in_err-skip-3-clause-reads
returns-in_err-skip-3-clause-reads c =
    exits _ _ _ _ c.from_residual-in_err-skip-3.result c.in_err-skip-3.field-0.0 c.from_residual-in_err-skip-3.ensures.1
    (Follows (ToRight (sym c.sees.ensures ∙ c.if-sees.false) (ToLeft (sym c.sees-2.ensures ∙ c.if-sees-2.true) (FirstFails c.in_err-skip-3.ensures.reads))))

pub returns-in_err-assigned-2-clause-reads : goal.returns-in_err-assigned-2-clause-reads
returns-in_err-assigned-2-clause-reads c =
    exits _ _ _ _ c.from_residual-in_err-assigned-2.result c.in_err-assigned-2.field-0.0 c.from_residual-in_err-assigned-2.ensures.1
    (Follows (ToRight (sym c.sees.ensures ∙ c.if-sees.false) (ToLeft (sym c.sees-2.ensures ∙ c.if-sees-2.true) (Then c.in_ok-skip-3.ensures.reads c.in_err-assigned-2.ensures.reads))))

pub returns-then-sees-2-clause-reads : goal.returns-then-sees-2-clause-reads
returns-then-sees-2-clause-reads c = Follows (ToRight (sym c.sees.ensures ∙ c.if-sees.false) (ToLeft (sym c.sees-2.ensures ∙ c.if-sees-2.true) (Then c.in_ok-skip-3.ensures.reads c.in_ok-assigned-2.ensures.reads)))

pub returns-in_err-plain-clause-reads : goal.returns-in_err-plain-clause-reads
returns-in_err-plain-clause-reads c =
    exits _ _ _ _ c.from_residual-in_err-plain.result c.in_err-plain.field-0.0 c.from_residual-in_err-plain.ensures.1
    (Follows (ToRight (sym c.sees.ensures ∙ c.if-sees.false) (ToRight (sym c.sees-2.ensures ∙ c.if-sees-2.false) c.in_err-plain.ensures.reads)))

pub returns-clause-reads : goal.returns-clause-reads
returns-clause-reads c = Follows (ToRight (sym c.sees.ensures ∙ c.if-sees.false) (ToRight (sym c.sees-2.ensures ∙ c.if-sees-2.false) c.in_ok-plain.ensures.reads))

pub returns-clause-line : goal.returns-clause-line
returns-clause-line c = plain_line _ c.args.first _ c.requires c.in_ok-plain.ensures.begins
