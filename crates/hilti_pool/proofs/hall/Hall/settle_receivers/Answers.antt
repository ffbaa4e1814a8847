use Rattle.std.proofs.Common.{arith, take}
use Rattle.std.proofs.lemmas.List.Elements.{All-weaker}
use Rattle.hilti_pool.specs.Hall.{HasSeat, receivers}
use Rattle.hilti_pool.proofs.Items.{one_receiver}
use Rattle.hilti_pool.proofs.Rooms.{grows_on}
use Rattle.hilti_pool.proofs.hall.Hall.settle_receivers.Goals as goal

pub loop-item-preserved : goal.loop-item-preserved
loop-item-preserved g c =
    let old = c.loop-item.self in
    let new = c.settle_receiver.new.self in
    let items = c.as_slice-item-items.result.now in
    let more = c.settle_receiver.ensures.grows in (
      grows_on c.args.self.now old new c.loop-item.invariant.0 more,
      one_receiver (HasSeat new) items c.loop-item.item-index c.item-item.result (omega arith) c.item-item.is
          (All-weaker (HasSeat old) (HasSeat new) more.seats (receivers (take c.loop-item.item-index items)) c.loop-item.invariant.1) c.in_ok-settle_receiver.ensures.seats,
    )
