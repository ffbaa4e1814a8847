use Rattle.hilti_reader.proofs.Exits.{exits}
use Rattle.hilti_reader.proofs.Marks.{is_mark_64, mark_taken}
use Rattle.hilti_reader.proofs.read_marks.read_at_sign.Goals as goal

pub returns-in_err-at-clause-reads : goal.returns-in_err-at-clause-reads
returns-in_err-at-clause-reads c = exits _ _ _ _ c.from_residual.result c.in_err-at.field-0.0 c.from_residual.ensures.1 c.in_err-at.ensures.reads

pub returns-clause-reads : goal.returns-clause-reads
returns-clause-reads c = mark_taken _ _ _ _ c.in_ok-at.at (is_mark_64 c.in_ok-at.at.kind c.in_ok-at.ensures.kind) c.in_ok-at.ensures.reads
