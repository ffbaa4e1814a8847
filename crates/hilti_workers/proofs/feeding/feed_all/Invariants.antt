use Rattle.std.proofs.Common.{◌≡◌}
use Rattle.hilti_feeder.specs.Feeding.{CountsFaults}
use Rattle.hilti_turn.specs.Passes.{mine, IsSamePass}
use Rattle.hilti_workers.specs.Turns.{IsAtHand}
use Rattle.hilti_workers.proofs.Feeds.{IsFeeding}
use Rattle.hilti_workers.proofs.feeding.feed_all.Given as goal

-- some calls were fed, and others may come
abbrev pub invariant-loop : goal.invariant-loop
invariant-loop g l = let first = l.initial.feeder in record {
  at_hand : IsAtHand l.turn l.pass;
  same : IsSamePass l.initial.pass l.pass;
  feeding : IsFeeding (g.F.Feeder.gives (g.F.Feeder.origin first)) (g.F.Feeder.coming first) (g.F.Feeder.coming l.feeder) (mine l.initial.pass) (mine l.pass);
  origin : g.F.Feeder.origin l.feeder ≡ g.F.Feeder.origin first;
  counts : CountsFaults (g.F.Feeder.faults first) (g.F.Feeder.faults l.feeder) (g.F.Feeder.lost first) (g.F.Feeder.lost l.feeder);
}
