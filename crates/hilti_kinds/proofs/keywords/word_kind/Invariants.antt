use Rattle.std.proofs.Common.{◌≡◌}
use Rattle.hilti_kinds.specs.Kinds.{look_up, keyword_kinds}
use Rattle.hilti_kinds.proofs.WordTable.{from_here}
use Rattle.hilti_kinds.proofs.keywords.word_kind.Given as goal

abbrev pub invariant-loop-keyword : goal.invariant-loop-keyword
invariant-loop-keyword l = look_up keyword_kinds l.bytes ≡ from_here l.keyword-items l.keyword-index l.bytes
