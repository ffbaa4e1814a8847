use Rattle.std.proofs.Common.{◌≡◌}
use Rattle.hilti_turn.specs.Passes.{number, IsOutside}
use Rattle.hilti_turn.specs.Turns.{IsPassOf}
use Rattle.hilti_thread_tests.proofs.turn.take_turns.Given as goal

abbrev pub invariant-loop-deed : goal.invariant-loop-deed
invariant-loop-deed g l = IsPassOf l.turn l.pass × IsOutside l.pass × (number l.pass ≡ number l.fn.pass)
