use Rattle.hilti_reader.proofs.Exits.{exits}
use Rattle.hilti_reader.proofs.Marks.{is_mark_40, mark_taken}
use Rattle.hilti_reader.proofs.read_marks.read_open_paren.Goals as goal

pub returns-in_err-paren-clause-reads : goal.returns-in_err-paren-clause-reads
returns-in_err-paren-clause-reads c = exits _ _ _ _ c.from_residual.result c.in_err-paren.field-0.0 c.from_residual.ensures.1 c.in_err-paren.ensures.reads

pub returns-clause-reads : goal.returns-clause-reads
returns-clause-reads c = mark_taken _ _ _ _ c.in_ok-paren.paren (is_mark_40 c.in_ok-paren.paren.kind c.in_ok-paren.ensures.kind) c.in_ok-paren.ensures.reads
