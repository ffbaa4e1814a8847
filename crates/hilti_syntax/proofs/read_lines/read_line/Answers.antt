use Rattle.std.proofs.Common.{◌∙◌, sym}
use Rattle.hilti_grammar.specs.Runs.{Runs.FirstFails, Runs.Then, Runs.Follows, Runs.ToLeft, Runs.ToRight}
use Rattle.hilti_reader.proofs.Exits.{exits, gives}
use Rattle.hilti_syntax.proofs.Lines.{reserved_line, name_not_reserved}
use Rattle.hilti_syntax.proofs.read_lines.read_line.Goals as goal

pub returns-in_err-place-clause-reads : goal.returns-in_err-place-clause-reads
returns-in_err-place-clause-reads c =
    exits _ _ _ _ c.from_residual.result c.in_err-place.field-0.0 c.from_residual.ensures.1
    (Follows (ToLeft (sym c.sees.ensures ∙ c.if-sees.true) c.in_err-place.ensures.reads))

pub returns-then-sees-clause-reads : goal.returns-then-sees-clause-reads
returns-then-sees-clause-reads c = Follows (ToLeft (sym c.sees.ensures ∙ c.if-sees.true) c.in_ok-place.ensures.reads)

pub returns-in_err-reserved-clause-reads : goal.returns-in_err-reserved-clause-reads
returns-in_err-reserved-clause-reads c =
    exits _ _ _ _ c.from_residual-in_err-reserved.result c.in_err-reserved.field-0.0 c.from_residual-in_err-reserved.ensures.1
    (Follows (ToRight (sym c.sees.ensures ∙ c.if-sees.false) (ToLeft (sym c.sees-2.ensures ∙ c.if-sees-2.true) (FirstFails c.in_err-reserved.ensures.reads))))

pub returns-in_err-instruction-clause-reads : goal.returns-in_err-instruction-clause-reads
returns-in_err-instruction-clause-reads c =
    exits _ _ _ _ c.from_residual-in_err-instruction.result c.in_err-instruction.field-0.0 c.from_residual-in_err-instruction.ensures.1
    (Follows (ToRight (sym c.sees.ensures ∙ c.if-sees.false) (ToLeft (sym c.sees-2.ensures ∙ c.if-sees-2.true) (Then c.in_ok-reserved.ensures.reads c.in_err-instruction.ensures.reads))))

pub returns-then-sees-2-clause-reads : goal.returns-then-sees-2-clause-reads
returns-then-sees-2-clause-reads c =
    gives _ _ _ _ _ (reserved_line _ c.in_ok-reserved.reserved _ c.in_ok-reserved.ensures.kind c.in_ok-instruction.ensures.begins)
    (Follows (ToRight (sym c.sees.ensures ∙ c.if-sees.false) (ToLeft (sym c.sees-2.ensures ∙ c.if-sees-2.true) (Then c.in_ok-reserved.ensures.reads c.in_ok-instruction.ensures.reads))))

pub returns-in_err-first-clause-reads : goal.returns-in_err-first-clause-reads
returns-in_err-first-clause-reads c =
    exits _ _ _ _ c.from_residual-in_err-first.result c.in_err-first.field-0.0 c.from_residual-in_err-first.ensures.1
    (Follows (ToRight (sym c.sees.ensures ∙ c.if-sees.false) (ToRight (sym c.sees-2.ensures ∙ c.if-sees-2.false) (FirstFails c.in_err-first.ensures.reads))))

pub returns-in_err-line-clause-reads : goal.returns-in_err-line-clause-reads
returns-in_err-line-clause-reads c =
    exits _ _ _ _ c.from_residual-in_err-line.result c.in_err-line.field-0.0 c.from_residual-in_err-line.ensures.1
    (Follows (ToRight (sym c.sees.ensures ∙ c.if-sees.false) (ToRight (sym c.sees-2.ensures ∙ c.if-sees-2.false) (Then c.in_ok-first.ensures.reads c.in_err-line.ensures.reads))))

pub read_after_word-requires : goal.read_after_word-requires
read_after_word-requires c = name_not_reserved c.in_ok-first.first c.in_ok-first.ensures.kind

pub returns-clause-reads : goal.returns-clause-reads
returns-clause-reads c = gives _ _ _ _ _ c.in_ok-line.ensures.line (Follows (ToRight (sym c.sees.ensures ∙ c.if-sees.false) (ToRight (sym c.sees-2.ensures ∙ c.if-sees-2.false) (Then c.in_ok-first.ensures.reads c.in_ok-line.ensures.reads))))
