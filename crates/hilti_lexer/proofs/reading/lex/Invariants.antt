use Rattle.std.proofs.Common.{length}
use Rattle.hilti_lexer.specs.Readings.{AreRead, HasRoom, start}
use Rattle.hilti_lexer.proofs.reading.lex.Given as goal

abbrev pub invariant-loop-tokens : goal.invariant-loop-tokens
invariant-loop-tokens l = AreRead (start l.file) l.text l.tokens l.at l.rest × HasRoom l.at l.rest

abbrev pub decreases-loop-tokens : goal.decreases-loop-tokens
decreases-loop-tokens l = length l.rest
