-- What a write took goes over to the front.
use Rattle.std.proofs.Common.{◌≡◌}
use Rattle.hilti_outside.proofs.Pieces.{wrote_more}
use Rattle.hilti_outside.proofs.sink.write_all.Goals as goal

pub pieces-preserved : goal.pieces-preserved
pieces-preserved g c =
    let same : g.S.Sink.faults c.write.new.self ≡ g.S.Sink.faults c.args.sink.now = cc (c.in_ok-count.ensures.cause, c.pieces.invariant.1) in
    (wrote_more _ _ c.in_ok-count.count _ _ _ c.pieces.invariant.0 c.in_ok-count.ensures.ok, same)
