use Rattle.hilti_grammar.specs.Runs.{Runs.FirstFails, Runs.Then}
use Rattle.hilti_reader.proofs.Exits.{exits}
use Rattle.hilti_read_shapes.proofs.read_parameters.read_parameter.Goals as goal

pub returns-in_err-kind-clause-reads : goal.returns-in_err-kind-clause-reads
returns-in_err-kind-clause-reads c = exits _ _ _ _ c.from_residual.result c.in_err-kind.field-0.0 c.from_residual.ensures.1 (FirstFails c.in_err-kind.ensures.reads)

pub returns-in_err-name-clause-reads : goal.returns-in_err-name-clause-reads
returns-in_err-name-clause-reads c =
    exits _ _ _ _ c.from_residual-in_err-name.result c.in_err-name.field-0.0 c.from_residual-in_err-name.ensures.1 (Then c.in_ok-kind.ensures.reads c.in_err-name.ensures.reads)

pub returns-clause-reads : goal.returns-clause-reads
returns-clause-reads c = Then c.in_ok-kind.ensures.reads c.in_ok-name.ensures.reads
