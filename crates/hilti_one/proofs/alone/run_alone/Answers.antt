use Rattle.hilti_one.proofs.Feeding.{fed_between}
use Rattle.hilti_one.proofs.alone.run_alone.Goals as goal

pub take_turns-requires-clause-between : goal.take_turns-requires-clause-between
take_turns-requires-clause-between g c κs within =
    fed_between g.B.Body.effect (g.B.Body.facts c.args.body.now) c.args.limit c.args.calls c.new-pool.result c.feed_all.new.pool c.new-pool.ensures.pool c.in_ok-feed_all.ensures
