use Rattle.hilti_grammar.specs.Runs.{Runs.FirstFails, Runs.Then}
use Rattle.hilti_reader.proofs.Exits.{exits}
use Rattle.hilti_syntax.proofs.read_instructions.read_behind_first_word.Goals as goal

pub returns-in_err-second-clause-reads : goal.returns-in_err-second-clause-reads
returns-in_err-second-clause-reads c = exits _ _ _ _ c.from_residual.result c.in_err-second.field-0.0 c.from_residual.ensures.1 (FirstFails c.in_err-second.ensures.reads)

pub returns-in_err-operands-clause-reads : goal.returns-in_err-operands-clause-reads
returns-in_err-operands-clause-reads c = exits _ _ _ _ c.from_residual-in_err-operands.result c.in_err-operands.field-0.0 c.from_residual-in_err-operands.ensures.1 (Then c.in_ok-second.ensures.reads (FirstFails c.in_err-operands.ensures.reads))

pub returns-in_err-skip-clause-reads : goal.returns-in_err-skip-clause-reads
returns-in_err-skip-clause-reads c = exits _ _ _ _ c.from_residual-in_err-skip.result c.in_err-skip.field-0.0 c.from_residual-in_err-skip.ensures.1 (Then c.in_ok-second.ensures.reads (Then c.in_ok-operands.ensures.reads c.in_err-skip.ensures.reads))

pub returns-clause-reads : goal.returns-clause-reads
returns-clause-reads c = Then c.in_ok-second.ensures.reads (Then c.in_ok-operands.ensures.reads c.in_ok-skip.ensures.reads)
