use Rattle.std.proofs.Common.{◌≡◌, ℕ, ◌<◌, get_or, true}
use Rattle.hilti_lexer.specs.Characters.{is_group_byte}
use Rattle.hilti_lexer.proofs.runs.count_group_bytes.Given as goal

abbrev pub invariant-loop-i : goal.invariant-loop-i
invariant-loop-i l = (k : ℕ) → k < l.i → is_group_byte (get_or l.text k 0) ≡ true
