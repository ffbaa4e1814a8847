use Rattle.hilti_reader.proofs.Exits.{exits}
use Rattle.hilti_reader.proofs.Marks.{is_mark_42, mark_taken}
use Rattle.hilti_reader.proofs.read_marks.read_star.Goals as goal

pub returns-in_err-star-clause-reads : goal.returns-in_err-star-clause-reads
returns-in_err-star-clause-reads c = exits _ _ _ _ c.from_residual.result c.in_err-star.field-0.0 c.from_residual.ensures.1 c.in_err-star.ensures.reads

pub returns-clause-reads : goal.returns-clause-reads
returns-clause-reads c = mark_taken _ _ _ _ c.in_ok-star.star (is_mark_42 c.in_ok-star.star.kind c.in_ok-star.ensures.kind) c.in_ok-star.ensures.reads
