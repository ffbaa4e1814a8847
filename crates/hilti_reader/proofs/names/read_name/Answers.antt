use Rattle.hilti_grammar.specs.Runs.{Runs.FirstFails, Runs.Then, Runs.Follows}
use Rattle.hilti_reader.proofs.Exits.{exits}
use Rattle.hilti_reader.proofs.names.read_name.Goals as goal

pub returns-in_err-first-clause-reads : goal.returns-in_err-first-clause-reads
returns-in_err-first-clause-reads c =
    exits _ _ _ _ c.from_residual.result c.in_err-first.field-0.0 c.from_residual.ensures.1 (Follows (FirstFails c.in_err-first.ensures.reads))

pub returns-in_err-second-clause-reads : goal.returns-in_err-second-clause-reads
returns-in_err-second-clause-reads c =
    exits _ _ _ _ c.from_residual-in_err-second.result c.in_err-second.field-0.0 c.from_residual-in_err-second.ensures.1
    (Follows (Then c.in_ok-first.ensures.reads c.in_err-second.ensures.reads))

pub returns-clause-reads : goal.returns-clause-reads
returns-clause-reads c = Follows (Then c.in_ok-first.ensures.reads c.in_ok-second.ensures.reads)
