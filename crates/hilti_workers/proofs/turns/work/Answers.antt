use Rattle.std.proofs.Common.{arith, ◌∙◌}
use Rattle.hilti_workers.proofs.Working.{about_same, same_twice, same_self, ran_none, after_turn, over_told}
use Rattle.hilti_workers.proofs.turns.work.Goals as goal

pub turn-requires-clause-at_hand : goal.turn-requires-clause-at_hand
turn-requires-clause-at_hand g c κs within = c.loop.invariant.0

pub turn-requires-clause-even : goal.turn-requires-clause-even
turn-requires-clause-even g c κs within = c.loop.invariant.2

pub turn-requires-clause-about : goal.turn-requires-clause-about
turn-requires-clause-about g c κs within = about_same (g.B.Body.facts c.args.body.now) c.args.pass.now c.loop.pass c.loop.invariant.1 c.requires.about

pub loop-preserved : goal.loop-preserved
loop-preserved g c =
    let e = c.turn.ensures in
    let kept = c.loop.invariant in
    let after = after_turn g.B.Body.effect c.args.pass.now c.loop.pass c.turn.new.pass c.in_ok-turned.turned c.in_ok-turned.ensures.answer kept.1 kept.2 kept.3 in
    (e.at_hand, same_twice c.args.pass.now c.loop.pass c.turn.new.pass kept.1 e.same, after.0, after.1, omega (arith, kept.4, e.entered))
