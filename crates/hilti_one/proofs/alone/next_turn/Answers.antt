use Rattle.hilti_one.proofs.Going.{next_ready, next_waits}
use Rattle.hilti_one.proofs.alone.next_turn.Goals as goal

pub returns-then-is_ready : goal.returns-then-is_ready
returns-then-is_ready g c =
    next_ready g.B.Body.effect c.args.pool.now c.in_ok-thread.thread.n c.is_ready.result c.if-is_ready.true c.requires c.in_ok-thread.ensures c.is_ready.ensures

pub returns-else-is_ready : goal.returns-else-is_ready
returns-else-is_ready g c =
    next_waits g.B.Body.effect c.args.pool.now c.in_ok-thread.thread.n c.is_ready.result c.if-is_ready.false c.requires c.in_ok-thread.ensures c.is_ready.ensures
