use Rattle.std.proofs.Common.{◌∙◌, sym}
use Rattle.std.specs.Prelude.{None}
use Rattle.hilti_grammar.specs.Runs.{Runs.FirstFails, Runs.Then, Runs.Follows, Runs.ToLeft, Runs.ToRight, Runs.Leaves}
use Rattle.hilti_reader.proofs.Exits.{exits, gives}
use Rattle.hilti_read_shapes.proofs.ReadingForms.{other_form, bytes_form, length_form, range_form}
use Rattle.hilti_read_shapes.proofs.read_forms.read_form.Goals as goal

pub returns-in_err-word-clause-reads : goal.returns-in_err-word-clause-reads
returns-in_err-word-clause-reads c =
    exits _ _ _ _ c.from_residual.result c.in_err-word.field-0.0 c.from_residual.ensures.1
    (Follows (ToRight (sym c.sees.ensures ∙ c.if-not-sees.true) (FirstFails c.in_err-word.ensures.reads)))

pub returns-in_err-bits-clause-reads : goal.returns-in_err-bits-clause-reads
returns-in_err-bits-clause-reads c =
    exits _ _ _ _ c.from_residual-in_err-bits.result c.in_err-bits.field-0.0 c.from_residual-in_err-bits.ensures.1
    (Follows (ToRight (sym c.sees.ensures ∙ c.if-not-sees.true) (Then c.in_ok-word.ensures.reads c.in_err-bits.ensures.reads)))

pub returns-then-not-sees-clause-reads : goal.returns-then-not-sees-clause-reads
returns-then-not-sees-clause-reads c =
    gives _ _ _ _ _ (other_form _ _ c.in_ok-word.ensures.other) (Follows (ToRight (sym c.sees.ensures ∙ c.if-not-sees.true) (Then c.in_ok-word.ensures.reads c.in_ok-bits.ensures.reads)))

pub returns-in_err-word-2-clause-reads : goal.returns-in_err-word-2-clause-reads
returns-in_err-word-2-clause-reads c =
    exits _ _ _ _ c.from_residual-in_err-word-2.result c.in_err-word-2.field-0.0 c.from_residual-in_err-word-2.ensures.1
    (Follows (ToLeft (sym c.sees.ensures ∙ c.if-not-sees.false) (FirstFails c.in_err-word-2.ensures.reads)))

pub returns-then-not-sees-2-clause-reads : goal.returns-then-not-sees-2-clause-reads
returns-then-not-sees-2-clause-reads c =
    gives _ _ c.take_bytes_word.new.cursor _ _ (bytes_form c.in_ok-word-2.word None c.in_ok-word-2.ensures.spelled) (Follows (ToLeft (sym c.sees.ensures ∙ c.if-not-sees.false) (Then c.in_ok-word-2.ensures.reads (ToRight (sym c.sees-2.ensures ∙ c.if-not-sees-2.true) Leaves))))

pub returns-in_err-skip-clause-reads : goal.returns-in_err-skip-clause-reads
returns-in_err-skip-clause-reads c =
    exits _ _ _ _ c.from_residual-in_err-skip.result c.in_err-skip.field-0.0 c.from_residual-in_err-skip.ensures.1
    (Follows (ToLeft (sym c.sees.ensures ∙ c.if-not-sees.false) (Then c.in_ok-word-2.ensures.reads (ToLeft (sym c.sees-2.ensures ∙ c.if-not-sees-2.false) (FirstFails c.in_err-skip.ensures.reads)))))

pub returns-in_err-low-clause-reads : goal.returns-in_err-low-clause-reads
returns-in_err-low-clause-reads c =
    exits _ _ _ _ c.from_residual-in_err-low.result c.in_err-low.field-0.0 c.from_residual-in_err-low.ensures.1
    (Follows (ToLeft (sym c.sees.ensures ∙ c.if-not-sees.false) (Then c.in_ok-word-2.ensures.reads (ToLeft (sym c.sees-2.ensures ∙ c.if-not-sees-2.false) (Then c.in_ok-skip.ensures.reads (FirstFails (FirstFails c.in_err-low.ensures.reads)))))))

pub returns-in_err-second-clause-reads : goal.returns-in_err-second-clause-reads
returns-in_err-second-clause-reads c =
    exits _ _ _ _ c.from_residual-in_err-second.result c.in_err-second.field-0.0 c.from_residual-in_err-second.ensures.1
    (Follows (ToLeft (sym c.sees.ensures ∙ c.if-not-sees.false) (Then c.in_ok-word-2.ensures.reads (ToLeft (sym c.sees-2.ensures ∙ c.if-not-sees-2.false) (Then c.in_ok-skip.ensures.reads (FirstFails (Then c.in_ok-low.ensures.reads c.in_err-second.ensures.reads)))))))

pub returns-in_err-skip-2-clause-reads : goal.returns-in_err-skip-2-clause-reads
returns-in_err-skip-2-clause-reads c =
    exits _ _ _ _ c.from_residual-in_err-skip-2.result c.in_err-skip-2.field-0.0 c.from_residual-in_err-skip-2.ensures.1
    (Follows (ToLeft (sym c.sees.ensures ∙ c.if-not-sees.false) (Then c.in_ok-word-2.ensures.reads (ToLeft (sym c.sees-2.ensures ∙ c.if-not-sees-2.false) (Then c.in_ok-skip.ensures.reads (Then (Then c.in_ok-low.ensures.reads c.in_ok-second.ensures.reads) c.in_err-skip-2.ensures.reads))))))

pub returns-in-None-clause-reads : goal.returns-in-None-clause-reads
returns-in-None-clause-reads c =
    gives _ _ _ _ _ (length_form _ _ _ c.in_ok-word-2.ensures.spelled c.in-None.is)
    (Follows (ToLeft (sym c.sees.ensures ∙ c.if-not-sees.false) (Then c.in_ok-word-2.ensures.reads (ToLeft (sym c.sees-2.ensures ∙ c.if-not-sees-2.false) (Then c.in_ok-skip.ensures.reads (Then (Then c.in_ok-low.ensures.reads c.in_ok-second.ensures.reads) c.in_ok-skip-2.ensures.reads))))))

pub returns-in-Some-clause-reads : goal.returns-in-Some-clause-reads
returns-in-Some-clause-reads c =
    gives _ _ _ _ _ (range_form _ _ _ _ c.in_ok-word-2.ensures.spelled c.in-Some.is)
    (Follows (ToLeft (sym c.sees.ensures ∙ c.if-not-sees.false) (Then c.in_ok-word-2.ensures.reads (ToLeft (sym c.sees-2.ensures ∙ c.if-not-sees-2.false) (Then c.in_ok-skip.ensures.reads (Then (Then c.in_ok-low.ensures.reads c.in_ok-second.ensures.reads) c.in_ok-skip-2.ensures.reads))))))
