use Rattle.hilti_grammar.specs.Runs.{Runs.FirstFails, Runs.Then, Runs.Follows}
use Rattle.hilti_reader.proofs.Exits.{exits}
use Rattle.hilti_read_shapes.proofs.arguments.read_arguments.Goals as goal

pub returns-in_err-skip-clause-reads : goal.returns-in_err-skip-clause-reads
returns-in_err-skip-clause-reads c =
    exits _ _ _ _ c.from_residual.result c.in_err-skip.field-0.0 c.from_residual.ensures.1
    (Follows (FirstFails c.in_err-skip.ensures.reads))

pub returns-in_err-parameters-clause-reads : goal.returns-in_err-parameters-clause-reads
returns-in_err-parameters-clause-reads c =
    exits _ _ _ _ c.from_residual-in_err-parameters.result c.in_err-parameters.field-0.0 c.from_residual-in_err-parameters.ensures.1
    (Follows (Then c.in_ok-skip.ensures.reads (FirstFails c.in_err-parameters.ensures.reads)))

pub returns-in_err-skip-2-clause-reads : goal.returns-in_err-skip-2-clause-reads
returns-in_err-skip-2-clause-reads c =
    exits _ _ _ _ c.from_residual-in_err-skip-2.result c.in_err-skip-2.field-0.0 c.from_residual-in_err-skip-2.ensures.1
    (Follows (Then c.in_ok-skip.ensures.reads (Then c.in_ok-parameters.ensures.reads c.in_err-skip-2.ensures.reads)))

pub returns-clause-reads : goal.returns-clause-reads
returns-clause-reads c = Follows (Then c.in_ok-skip.ensures.reads (Then c.in_ok-parameters.ensures.reads c.in_ok-skip-2.ensures.reads))
