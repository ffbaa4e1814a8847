use Rattle.hilti_grammar.specs.Runs.{Runs.FirstFails, Runs.Then, Runs.Follows}
use Rattle.hilti_reader.proofs.Exits.{exits}
use Rattle.hilti_syntax.proofs.read_bodies.read_body.Goals as goal

pub returns-in_err-skip-clause-reads : goal.returns-in_err-skip-clause-reads
returns-in_err-skip-clause-reads c =
    exits _ _ _ _ c.from_residual.result c.in_err-skip.field-0.0 c.from_residual.ensures.1
    (Follows (FirstFails c.in_err-skip.ensures.reads))

pub returns-in_err-skip-2-clause-reads : goal.returns-in_err-skip-2-clause-reads
returns-in_err-skip-2-clause-reads c =
    exits _ _ _ _ c.from_residual-in_err-skip-2.result c.in_err-skip-2.field-0.0 c.from_residual-in_err-skip-2.ensures.1
    (Follows (Then c.in_ok-skip.ensures.reads (FirstFails c.in_err-skip-2.ensures.reads)))

pub returns-in_err-locals-clause-reads : goal.returns-in_err-locals-clause-reads
returns-in_err-locals-clause-reads c =
    exits _ _ _ _ c.from_residual-in_err-locals.result c.in_err-locals.field-0.0 c.from_residual-in_err-locals.ensures.1
    (Follows (Then c.in_ok-skip.ensures.reads (Then c.in_ok-skip-2.ensures.reads (FirstFails c.in_err-locals.ensures.reads))))

pub returns-in_err-lines-clause-reads : goal.returns-in_err-lines-clause-reads
returns-in_err-lines-clause-reads c =
    exits _ _ _ _ c.from_residual-in_err-lines.result c.in_err-lines.field-0.0 c.from_residual-in_err-lines.ensures.1
    (Follows (Then c.in_ok-skip.ensures.reads (Then c.in_ok-skip-2.ensures.reads (Then c.in_ok-locals.ensures.reads (FirstFails c.in_err-lines.ensures.reads)))))

pub returns-in_err-close-clause-reads : goal.returns-in_err-close-clause-reads
returns-in_err-close-clause-reads c =
    exits _ _ _ _ c.from_residual-in_err-close.result c.in_err-close.field-0.0 c.from_residual-in_err-close.ensures.1
    (Follows (Then c.in_ok-skip.ensures.reads (Then c.in_ok-skip-2.ensures.reads (Then c.in_ok-locals.ensures.reads (Then c.in_ok-lines.ensures.reads (FirstFails c.in_err-close.ensures.reads))))))

pub returns-in_err-skip-3-clause-reads : goal.returns-in_err-skip-3-clause-reads
returns-in_err-skip-3-clause-reads c =
    exits _ _ _ _ c.from_residual-in_err-skip-3.result c.in_err-skip-3.field-0.0 c.from_residual-in_err-skip-3.ensures.1
    (Follows (Then c.in_ok-skip.ensures.reads (Then c.in_ok-skip-2.ensures.reads (Then c.in_ok-locals.ensures.reads (Then c.in_ok-lines.ensures.reads (Then c.in_ok-close.ensures.reads c.in_err-skip-3.ensures.reads))))))

pub returns-clause-reads : goal.returns-clause-reads
returns-clause-reads c = Follows (Then c.in_ok-skip.ensures.reads (Then c.in_ok-skip-2.ensures.reads (Then c.in_ok-locals.ensures.reads (Then c.in_ok-lines.ensures.reads (Then c.in_ok-close.ensures.reads c.in_ok-skip-3.ensures.reads)))))
