use Rattle.hilti_grammar.specs.Runs.{Runs.FirstFails, Runs.Then, Runs.Follows}
use Rattle.hilti_reader.proofs.Exits.{exits}
use Rattle.hilti_read_shapes.proofs.read_forms.read_field.Goals as goal

pub returns-in_err-name-clause-reads : goal.returns-in_err-name-clause-reads
returns-in_err-name-clause-reads c =
    exits _ _ _ _ c.from_residual.result c.in_err-name.field-0.0 c.from_residual.ensures.1
    (Follows (FirstFails c.in_err-name.ensures.reads))

pub returns-in_err-skip-clause-reads : goal.returns-in_err-skip-clause-reads
returns-in_err-skip-clause-reads c =
    exits _ _ _ _ c.from_residual-in_err-skip.result c.in_err-skip.field-0.0 c.from_residual-in_err-skip.ensures.1
    (Follows (Then c.in_ok-name.ensures.reads (FirstFails c.in_err-skip.ensures.reads)))

pub returns-in_err-kind-clause-reads : goal.returns-in_err-kind-clause-reads
returns-in_err-kind-clause-reads c =
    exits _ _ _ _ c.from_residual-in_err-kind.result c.in_err-kind.field-0.0 c.from_residual-in_err-kind.ensures.1
    (Follows (Then c.in_ok-name.ensures.reads (Then c.in_ok-skip.ensures.reads (FirstFails c.in_err-kind.ensures.reads))))

pub returns-in_err-skip-2-clause-reads : goal.returns-in_err-skip-2-clause-reads
returns-in_err-skip-2-clause-reads c =
    exits _ _ _ _ c.from_residual-in_err-skip-2.result c.in_err-skip-2.field-0.0 c.from_residual-in_err-skip-2.ensures.1
    (Follows (Then c.in_ok-name.ensures.reads (Then c.in_ok-skip.ensures.reads (Then c.in_ok-kind.ensures.reads (FirstFails c.in_err-skip-2.ensures.reads)))))

pub returns-in_err-offset-clause-reads : goal.returns-in_err-offset-clause-reads
returns-in_err-offset-clause-reads c =
    exits _ _ _ _ c.from_residual-in_err-offset.result c.in_err-offset.field-0.0 c.from_residual-in_err-offset.ensures.1
    (Follows (Then c.in_ok-name.ensures.reads (Then c.in_ok-skip.ensures.reads (Then c.in_ok-kind.ensures.reads (Then c.in_ok-skip-2.ensures.reads (FirstFails c.in_err-offset.ensures.reads))))))

pub returns-in_err-skip-3-clause-reads : goal.returns-in_err-skip-3-clause-reads
returns-in_err-skip-3-clause-reads c =
    exits _ _ _ _ c.from_residual-in_err-skip-3.result c.in_err-skip-3.field-0.0 c.from_residual-in_err-skip-3.ensures.1
    (Follows (Then c.in_ok-name.ensures.reads (Then c.in_ok-skip.ensures.reads (Then c.in_ok-kind.ensures.reads (Then c.in_ok-skip-2.ensures.reads (Then c.in_ok-offset.ensures.reads (FirstFails c.in_err-skip-3.ensures.reads)))))))

pub returns-in_err-form-clause-reads : goal.returns-in_err-form-clause-reads
returns-in_err-form-clause-reads c =
    exits _ _ _ _ c.from_residual-in_err-form.result c.in_err-form.field-0.0 c.from_residual-in_err-form.ensures.1
    (Follows (Then c.in_ok-name.ensures.reads (Then c.in_ok-skip.ensures.reads (Then c.in_ok-kind.ensures.reads (Then c.in_ok-skip-2.ensures.reads (Then c.in_ok-offset.ensures.reads (Then c.in_ok-skip-3.ensures.reads c.in_err-form.ensures.reads)))))))

pub returns-clause-reads : goal.returns-clause-reads
returns-clause-reads c = Follows (Then c.in_ok-name.ensures.reads (Then c.in_ok-skip.ensures.reads (Then c.in_ok-kind.ensures.reads (Then c.in_ok-skip-2.ensures.reads (Then c.in_ok-offset.ensures.reads (Then c.in_ok-skip-3.ensures.reads c.in_ok-form.ensures.reads))))))
