use Rattle.std.specs.List.{All}
use Rattle.hilti_core.specs.Countdown.{IsNumber}
use Rattle.hilti_thread_tests.proofs.one.calls_on.Given as goal

-- the calls so far are on numbers
abbrev pub invariant-loop-number : goal.invariant-loop-number
invariant-loop-number l = All IsNumber l.calls
