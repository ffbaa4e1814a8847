use Rattle.std.proofs.Common.{◌≡◌}
use Rattle.hilti_turn.specs.Passes.{IsSamePass}
use Rattle.hilti_turn.proofs.turn.Turn.wait.Given as goal

abbrev pub invariant-loop : goal.invariant-loop
invariant-loop g l = IsSamePass l.initial.pass l.pass × (l.pass.seat.me ≡ l.initial.pass.seat.me)
