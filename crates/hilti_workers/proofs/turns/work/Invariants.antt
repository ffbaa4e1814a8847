use Rattle.std.proofs.Common.{◌≤◌}
use Rattle.hilti_turn.specs.Passes.{mine, visits, IsSamePass}
use Rattle.hilti_workers.specs.Entries.{AreEven}
use Rattle.hilti_workers.specs.Turns.{IsAtHand, RanAll}
use Rattle.hilti_workers.proofs.turns.work.Given as goal

-- the pass is the one that was given, and its own entries grew by turns
abbrev pub invariant-loop : goal.invariant-loop
invariant-loop g l = IsAtHand l.turn l.pass × IsSamePass l.initial.pass l.pass × AreEven (mine l.pass)
    × RanAll l.initial.pass l.pass × (visits l.initial.pass ≤ visits l.pass)
