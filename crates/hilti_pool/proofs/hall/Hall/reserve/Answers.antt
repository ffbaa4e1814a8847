use Rattle.hilti_pool.proofs.Rooms.{room_made}
use Rattle.hilti_pool.proofs.hall.Hall.reserve.Goals as goal

pub returns-clause-room : goal.returns-clause-room
returns-clause-room g c =
    let made = c.in_ok-reserve_places.ensures in
    let settled = c.in_ok-settle_receivers.ensures in
    let logs = c.in_ok-reserve_logs.ensures in
    room_made c.args.items.now c.len-count.result c.reserve_places.new.self c.settle_receivers.new.self c.reserve_logs.new.self c.len-count.ensures made.mail made.resting made.outs made.roll settled.grows settled.seats logs.grows logs.logs
