use Rattle.hilti_grammar.specs.Runs.{Runs.FirstFails, Runs.Then, Runs.Follows}
use Rattle.hilti_reader.proofs.Exits.{exits, gives}
use Rattle.hilti_syntax.proofs.Lines.{begins_with}
use Rattle.hilti_syntax.proofs.read_instructions.read_instruction.Goals as goal

pub returns-in_err-first-clause-reads : goal.returns-in_err-first-clause-reads
returns-in_err-first-clause-reads c = exits _ _ _ _ c.from_residual.result c.in_err-first.field-0.0 c.from_residual.ensures.1 (Follows (FirstFails c.in_err-first.ensures.reads))

pub returns-in_err-instruction-clause-reads : goal.returns-in_err-instruction-clause-reads
returns-in_err-instruction-clause-reads c = exits _ _ _ _ c.from_residual-in_err-instruction.result c.in_err-instruction.field-0.0 c.from_residual-in_err-instruction.ensures.1 (Follows (Then c.in_ok-first.ensures.reads c.in_err-instruction.ensures.reads))

pub returns-clause-reads : goal.returns-clause-reads
returns-clause-reads c = gives _ _ _ _ _ (begins_with _ _ _ c.in_ok-instruction.ensures.begins) (Follows (Then c.in_ok-first.ensures.reads c.in_ok-instruction.ensures.reads))
