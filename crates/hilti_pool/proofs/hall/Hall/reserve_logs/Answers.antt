use Rattle.std.proofs.Common.{arith}
use Rattle.hilti_pool.specs.Hall.{HasLogRoom}
use Rattle.hilti_pool.proofs.Items.{all_taken, more_logs}
use Rattle.hilti_pool.proofs.Rooms.{grows_on}
use Rattle.hilti_pool.proofs.hall.Hall.reserve_logs.Goals as goal

pub loop-place-preserved : goal.loop-place-preserved
loop-place-preserved g c =
    let old = c.loop-place.self in
    let len = c.loop-place.invariant.0.outs_len in (
      grows_on c.args.self.now old c.reserve_log.new.self c.loop-place.invariant.0 c.reserve_log.ensures.grows,
      more_logs c.args.count c.loop-place.place old c.reserve_log.new.self c.index-away.result.now c.reserve_log.ensures.grows (omega (arith, old.outs.ok.0, len)) c.index-away.ensures c.loop-place.invariant.1 c.in_ok-reserve_log.ensures.log,
    )

pub returns-clause-logs : goal.returns-clause-logs
returns-clause-logs g c =
    let old = c.loop-place.self in
    let len = c.loop-place.invariant.0.outs_len in
    all_taken (λ away. HasLogRoom c.args.count old away.thread.n) old.outs.items c.loop-place.place (omega (arith, old.outs.ok.0, len)) c.loop-place.invariant.1
