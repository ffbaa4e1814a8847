use Rattle.hilti_grammar.specs.Runs.{Runs.FirstFails, Runs.Then}
use Rattle.hilti_reader.proofs.Exits.{exits}
use Rattle.hilti_syntax.proofs.read_lines.read_handler.Goals as goal

pub returns-in_err-place-clause-reads : goal.returns-in_err-place-clause-reads
returns-in_err-place-clause-reads c =
    exits _ _ _ _ c.from_residual.result c.in_err-place.field-0.0 c.from_residual.ensures.1
    (FirstFails c.in_err-place.ensures.reads)

pub returns-in_err-exception-clause-reads : goal.returns-in_err-exception-clause-reads
returns-in_err-exception-clause-reads c =
    exits _ _ _ _ c.from_residual-in_err-exception.result c.in_err-exception.field-0.0 c.from_residual-in_err-exception.ensures.1
    (Then c.in_ok-place.ensures.reads (FirstFails c.in_err-exception.ensures.reads))

pub returns-in_err-skip-clause-reads : goal.returns-in_err-skip-clause-reads
returns-in_err-skip-clause-reads c =
    exits _ _ _ _ c.from_residual-in_err-skip.result c.in_err-skip.field-0.0 c.from_residual-in_err-skip.ensures.1
    (Then c.in_ok-place.ensures.reads (Then c.in_ok-exception.ensures.reads (FirstFails c.in_err-skip.ensures.reads)))

pub returns-in_err-target-clause-reads : goal.returns-in_err-target-clause-reads
returns-in_err-target-clause-reads c =
    exits _ _ _ _ c.from_residual-in_err-target.result c.in_err-target.field-0.0 c.from_residual-in_err-target.ensures.1
    (Then c.in_ok-place.ensures.reads (Then c.in_ok-exception.ensures.reads (Then c.in_ok-skip.ensures.reads (FirstFails c.in_err-target.ensures.reads))))

pub returns-in_err-slot-clause-reads : goal.returns-in_err-slot-clause-reads
returns-in_err-slot-clause-reads c =
    exits _ _ _ _ c.from_residual-in_err-slot.result c.in_err-slot.field-0.0 c.from_residual-in_err-slot.ensures.1
    (Then c.in_ok-place.ensures.reads (Then c.in_ok-exception.ensures.reads (Then c.in_ok-skip.ensures.reads (Then c.in_ok-target.ensures.reads c.in_err-slot.ensures.reads))))

pub returns-clause-reads : goal.returns-clause-reads
returns-clause-reads c = Then c.in_ok-place.ensures.reads (Then c.in_ok-exception.ensures.reads (Then c.in_ok-skip.ensures.reads (Then c.in_ok-target.ensures.reads c.in_ok-slot.ensures.reads)))
