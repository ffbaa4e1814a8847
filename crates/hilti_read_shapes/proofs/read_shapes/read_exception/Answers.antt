use Rattle.hilti_grammar.specs.Runs.{Runs.FirstFails, Runs.Then}
use Rattle.hilti_reader.proofs.Exits.{exits}
use Rattle.hilti_read_shapes.proofs.read_shapes.read_exception.Goals as goal

pub returns-in_err-place-clause-reads : goal.returns-in_err-place-clause-reads
returns-in_err-place-clause-reads c =
    exits _ _ _ _ c.from_residual.result c.in_err-place.field-0.0 c.from_residual.ensures.1
    (FirstFails c.in_err-place.ensures.reads)

pub returns-in_err-parent-clause-reads : goal.returns-in_err-parent-clause-reads
returns-in_err-parent-clause-reads c =
    exits _ _ _ _ c.from_residual-in_err-parent.result c.in_err-parent.field-0.0 c.from_residual-in_err-parent.ensures.1
    (Then c.in_ok-place.ensures.reads c.in_err-parent.ensures.reads)

pub returns-clause-reads : goal.returns-clause-reads
returns-clause-reads c = Then c.in_ok-place.ensures.reads c.in_ok-parent.ensures.reads
