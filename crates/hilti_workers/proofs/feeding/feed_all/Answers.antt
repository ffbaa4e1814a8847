use Rattle.std.proofs.Common.{◌∙◌, ◌⊎◌, subst}
use Rattle.hilti_feeder.specs.Feeding.{Gave, WasEmpty, BecameLost}
use Rattle.hilti_turn.specs.Passes.{mine}
use Rattle.hilti_workers.proofs.Feeds.{goes_on, ends, counts_twice, some_has, none_has}
use Rattle.hilti_workers.proofs.Working.{same_twice}
use Rattle.hilti_workers.proofs.feeding.feed_all.Goals as goal

pub loop-preserved : goal.loop-preserved
loop-preserved g c =
    let feeder = g.F.Feeder in
    let first = c.args.feeder.now in
    let was = c.loop.feeder in
    let now = c.next-in-loop.new.self in
    let kept = c.loop.invariant in
    let gave = c.in-Ok-Some.ensures in
    let call = c.in-Ok-Some.call in
    let given = some_has c.in-Ok-Some.field-0 call (λ x. Gave (feeder.coming was) x (feeder.coming now)) c.in-Ok-Some.field-0-is gave.some in
    let passed = some_has c.in-Ok-Some.field-0 call (feeder.gives (feeder.origin was)) c.in-Ok-Some.field-0-is gave.passes in
    let fed = c.in_ok-feed_call-in-Ok-Some.ensures in
    record {
      at_hand = fed.at_hand;
      same = same_twice c.args.pass.now c.loop.pass c.feed_call.new.pass kept.same fed.same;
      feeding = goes_on (feeder.gives (feeder.origin first)) (feeder.coming first) (mine c.args.pass.now) (feeder.coming was) (feeder.coming now) call
          (mine c.loop.pass) (mine c.feed_call.new.pass) kept.feeding given (subst (λ o. feeder.gives o call) kept.origin passed) fed.mine;
      origin = gave.origin ∙ kept.origin;
      counts = counts_twice (feeder.faults first) (feeder.faults was) (feeder.faults now) (feeder.lost first) (feeder.lost was) (feeder.lost now) kept.counts gave.faults;
    }

pub returns-in-Ok-None-clause-fed : goal.returns-in-Ok-None-clause-fed
returns-in-Ok-None-clause-fed g c =
    let feeder = g.F.Feeder in
    let first = c.args.feeder.now in
    let was = c.loop.feeder in
    let lost = feeder.lost c.next-in-loop.new.self in
    let none = none_has c.in-Ok-None.field-0 (WasEmpty (feeder.coming was) ⊎ BecameLost (feeder.lost was) lost) c.in-Ok-None.field-0-is c.in-Ok-None.ensures.none in
    ends (feeder.gives (feeder.origin first)) (feeder.coming first) (mine c.args.pass.now) (feeder.coming was) (feeder.lost was) lost
    (mine c.loop.pass) (mine c.end_feed.new.pass) c.loop.invariant.feeding none c.end_feed.ensures.mine
