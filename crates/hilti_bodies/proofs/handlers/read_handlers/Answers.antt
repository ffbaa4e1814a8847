use Rattle.hilti_operands.specs.Seen.{body_seen}
use Rattle.hilti_bodies.specs.Handlers.{read_handler}
use Rattle.hilti_bodies.proofs.Following.{behind_none, each_next, each_stops, each_read}
use Rattle.hilti_bodies.proofs.handlers.read_handlers.Goals as goal

pub loop-handler-init : goal.loop-handler-init
loop-handler-init c = rw c.new-read.ensures (behind_none _)

pub returns-in-Err : goal.returns-in-Err
returns-in-Err c =
    each_stops (read_handler (body_seen c.args.body.now)) _ c.args.handlers.now c.loop-handler.handler-index c.handler-item.result c.loop-handler.read _ c.loop-handler-test.true c.handler-item.is c.in-Err.ensures c.loop-handler.invariant

pub loop-handler-preserved : goal.loop-handler-preserved
loop-handler-preserved c =
    rw c.in_ok-push-in-Ok.ensures.ok
    (each_next (read_handler (body_seen c.args.body.now)) _ c.args.handlers.now c.loop-handler.handler-index c.handler-item.result c.loop-handler.read _ c.loop-handler-test.true c.handler-item.is c.in-Ok.ensures c.loop-handler.invariant)

pub returns : goal.returns
returns c = each_read (read_handler (body_seen c.args.body.now)) _ c.args.handlers.now c.loop-handler.handler-index c.loop-handler.read c.loop-handler-test.false c.loop-handler.invariant
