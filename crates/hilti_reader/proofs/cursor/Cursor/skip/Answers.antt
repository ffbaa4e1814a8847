use Rattle.hilti_reader.proofs.Exits.{exits, dropped}
use Rattle.hilti_reader.proofs.cursor.Cursor.skip.Goals as goal

pub returns-in_err-take-clause-reads : goal.returns-in_err-take-clause-reads
returns-in_err-take-clause-reads c = exits _ _ _ _ c.from_residual.result c.in_err-take.field-0.0 c.from_residual.ensures.1 (dropped _ _ _ c.in_err-take.ensures.reads)

pub returns-clause-reads : goal.returns-clause-reads
returns-clause-reads c = dropped _ _ _ c.in_ok-take.ensures.reads
