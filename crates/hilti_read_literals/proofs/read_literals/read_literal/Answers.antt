use Rattle.std.proofs.Common.{◌∙◌, sym}
use Rattle.hilti_grammar.specs.Runs.{Runs.FirstFails, Runs.Then, Runs.Follows, Runs.ToLeft, Runs.ToRight}
use Rattle.hilti_reader.proofs.Exits.{exits, gives}
use Rattle.hilti_read_literals.proofs.Literals.{literal_tree_one}
use Rattle.hilti_read_literals.proofs.read_literals.read_literal.Goals as goal

pub returns-in_err-plain-clause-reads : goal.returns-in_err-plain-clause-reads
returns-in_err-plain-clause-reads c = exits _ _ _ _ c.from_residual.result c.in_err-plain.field-0.0 c.from_residual.ensures.1 (Follows (ToLeft (sym c.sees.ensures ∙ c.if-sees.true) c.in_err-plain.ensures.reads))

pub returns-then-sees-clause-reads : goal.returns-then-sees-clause-reads
returns-then-sees-clause-reads c = gives _ _ _ _ _ (literal_tree_one _ c.in_ok-plain.ensures.one) (Follows (ToLeft (sym c.sees.ensures ∙ c.if-sees.true) c.in_ok-plain.ensures.reads))

pub returns-in_err-word-clause-reads : goal.returns-in_err-word-clause-reads
returns-in_err-word-clause-reads c = exits _ _ _ _ c.from_residual-in_err-word.result c.in_err-word.field-0.0 c.from_residual-in_err-word.ensures.1 (Follows (ToRight (sym c.sees.ensures ∙ c.if-sees.false) (ToLeft (sym c.sees-2.ensures ∙ c.if-sees-2.true) (FirstFails c.in_err-word.ensures.reads))))

pub returns-in_err-seconds-clause-reads : goal.returns-in_err-seconds-clause-reads
returns-in_err-seconds-clause-reads c = exits _ _ _ _ c.from_residual-in_err-seconds.result c.in_err-seconds.field-0.0 c.from_residual-in_err-seconds.ensures.1 (Follows (ToRight (sym c.sees.ensures ∙ c.if-sees.false) (ToLeft (sym c.sees-2.ensures ∙ c.if-sees-2.true) (Then c.in_ok-word.ensures.reads c.in_err-seconds.ensures.reads))))

pub returns-then-sees-2-clause-reads : goal.returns-then-sees-2-clause-reads
returns-then-sees-2-clause-reads c = gives _ _ _ _ _ c.time_literal.ensures.tree (Follows (ToRight (sym c.sees.ensures ∙ c.if-sees.false) (ToLeft (sym c.sees-2.ensures ∙ c.if-sees-2.true) (Then c.in_ok-word.ensures.reads c.in_ok-seconds.ensures.reads))))

pub returns-in_err-name-clause-reads : goal.returns-in_err-name-clause-reads
returns-in_err-name-clause-reads c = exits _ _ _ _ c.from_residual-in_err-name.result c.in_err-name.field-0.0 c.from_residual-in_err-name.ensures.1 (Follows (ToRight (sym c.sees.ensures ∙ c.if-sees.false) (ToRight (sym c.sees-2.ensures ∙ c.if-sees-2.false) (FirstFails c.in_err-name.ensures.reads))))

pub returns-in_err-skip-clause-reads : goal.returns-in_err-skip-clause-reads
returns-in_err-skip-clause-reads c = exits _ _ _ _ c.from_residual-in_err-skip.result c.in_err-skip.field-0.0 c.from_residual-in_err-skip.ensures.1 (Follows (ToRight (sym c.sees.ensures ∙ c.if-sees.false) (ToRight (sym c.sees-2.ensures ∙ c.if-sees-2.false) (Then c.in_ok-name.ensures.reads (FirstFails c.in_err-skip.ensures.reads)))))

pub returns-in_err-constant-clause-reads : goal.returns-in_err-constant-clause-reads
returns-in_err-constant-clause-reads c = exits _ _ _ _ c.from_residual-in_err-constant.result c.in_err-constant.field-0.0 c.from_residual-in_err-constant.ensures.1 (Follows (ToRight (sym c.sees.ensures ∙ c.if-sees.false) (ToRight (sym c.sees-2.ensures ∙ c.if-sees-2.false) (Then c.in_ok-name.ensures.reads (Then c.in_ok-skip.ensures.reads c.in_err-constant.ensures.reads)))))

pub returns-clause-reads : goal.returns-clause-reads
returns-clause-reads c = Follows (ToRight (sym c.sees.ensures ∙ c.if-sees.false) (ToRight (sym c.sees-2.ensures ∙ c.if-sees-2.false) (Then c.in_ok-name.ensures.reads (Then c.in_ok-skip.ensures.reads c.in_ok-constant.ensures.reads))))
