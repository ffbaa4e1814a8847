use Rattle.std.proofs.Common.{ℕ, ◌+◌, ◌<◌}
use Rattle.hilti_addr.specs.Groups.{HasColons}
use Rattle.hilti_addr.proofs.brackets.split_at_colons.Given as goal

abbrev pub invariant-loop-i : goal.invariant-loop-i
invariant-loop-i l = (place : ℕ) → place + 1 < l.i → ¬ (HasColons l.text place)
