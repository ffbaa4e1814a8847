use Rattle.std.proofs.Common.{length}
use Rattle.hilti_lexer.specs.Strings.{AreSpelled}
use Rattle.hilti_lexer.proofs.string.read_spelled.Given as goal

abbrev pub invariant-loop-byte : goal.invariant-loop-byte
invariant-loop-byte l = AreSpelled l.value l.inside l.rest

abbrev pub decreases-loop-byte : goal.decreases-loop-byte
decreases-loop-byte l = length l.rest
