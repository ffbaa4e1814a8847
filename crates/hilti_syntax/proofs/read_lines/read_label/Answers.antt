use Rattle.hilti_grammar.specs.Runs.{Runs.FirstFails, Runs.Then}
use Rattle.hilti_reader.proofs.Exits.{exits}
use Rattle.hilti_syntax.proofs.read_lines.read_label.Goals as goal

pub returns-in_err-place-clause-reads : goal.returns-in_err-place-clause-reads
returns-in_err-place-clause-reads c =
    exits _ _ _ _ c.from_residual.result c.in_err-place.field-0.0 c.from_residual.ensures.1
    (FirstFails c.in_err-place.ensures.reads)

pub returns-in_err-name-clause-reads : goal.returns-in_err-name-clause-reads
returns-in_err-name-clause-reads c =
    exits _ _ _ _ c.from_residual-in_err-name.result c.in_err-name.field-0.0 c.from_residual-in_err-name.ensures.1
    (Then c.in_ok-place.ensures.reads (FirstFails c.in_err-name.ensures.reads))

pub returns-in_err-handlers-clause-reads : goal.returns-in_err-handlers-clause-reads
returns-in_err-handlers-clause-reads c =
    exits _ _ _ _ c.from_residual-in_err-handlers.result c.in_err-handlers.field-0.0 c.from_residual-in_err-handlers.ensures.1
    (Then c.in_ok-place.ensures.reads (Then c.in_ok-name.ensures.reads (FirstFails c.in_err-handlers.ensures.reads)))

pub returns-in_err-skip-clause-reads : goal.returns-in_err-skip-clause-reads
returns-in_err-skip-clause-reads c =
    exits _ _ _ _ c.from_residual-in_err-skip.result c.in_err-skip.field-0.0 c.from_residual-in_err-skip.ensures.1
    (Then c.in_ok-place.ensures.reads (Then c.in_ok-name.ensures.reads (Then c.in_ok-handlers.ensures.reads (FirstFails c.in_err-skip.ensures.reads))))

pub returns-in_err-skip-2-clause-reads : goal.returns-in_err-skip-2-clause-reads
returns-in_err-skip-2-clause-reads c =
    exits _ _ _ _ c.from_residual-in_err-skip-2.result c.in_err-skip-2.field-0.0 c.from_residual-in_err-skip-2.ensures.1
    (Then c.in_ok-place.ensures.reads (Then c.in_ok-name.ensures.reads (Then c.in_ok-handlers.ensures.reads (Then c.in_ok-skip.ensures.reads c.in_err-skip-2.ensures.reads))))

pub returns-clause-reads : goal.returns-clause-reads
returns-clause-reads c = Then c.in_ok-place.ensures.reads (Then c.in_ok-name.ensures.reads (Then c.in_ok-handlers.ensures.reads (Then c.in_ok-skip.ensures.reads c.in_ok-skip-2.ensures.reads)))
