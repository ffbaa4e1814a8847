use Rattle.hilti_grammar.specs.Runs.{Runs.FirstFails, Runs.Then, Runs.Follows}
use Rattle.hilti_reader.proofs.Exits.{exits}
use Rattle.hilti_syntax.proofs.read_hooks.read_hook_body.Goals as goal

pub returns-in_err-priority-clause-reads : goal.returns-in_err-priority-clause-reads
returns-in_err-priority-clause-reads c =
    exits _ _ _ _ c.from_residual.result c.in_err-priority.field-0.0 c.from_residual.ensures.1
    (Follows (FirstFails c.in_err-priority.ensures.reads))

pub returns-in_err-body-clause-reads : goal.returns-in_err-body-clause-reads
returns-in_err-body-clause-reads c =
    exits _ _ _ _ c.from_residual-in_err-body.result c.in_err-body.field-0.0 c.from_residual-in_err-body.ensures.1
    (Follows (Then c.in_ok-priority.ensures.reads c.in_err-body.ensures.reads))

pub returns-clause-reads : goal.returns-clause-reads
returns-clause-reads c = Follows (Then c.in_ok-priority.ensures.reads c.in_ok-body.ensures.reads)
