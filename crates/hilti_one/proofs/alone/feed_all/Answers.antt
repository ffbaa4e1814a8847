use Rattle.hilti_one.proofs.Feeding.{one_fed}
use Rattle.hilti_one.proofs.alone.feed_all.Goals as goal

pub loop-call-preserved : goal.loop-call-preserved
loop-call-preserved g c =
    one_fed g.B.Body.sound c.args.calls c.loop-call.left.items c.pop_front.new.self.items c.in-Some.call c.args.pool.now c.loop-call.pool c.feed.new.self
    c.loop-call.invariant c.in-Some.ensures.items c.in_default-feed.ensures.ok
