-- The receivers of the items so far have seats.
use Rattle.std.proofs.Common.{All, take}
use Rattle.hilti_pool.specs.Hall.{Grows, HasSeat, receivers}
use Rattle.hilti_pool.proofs.hall.Hall.settle_receivers.Given as goal

abbrev pub invariant-loop-item : goal.invariant-loop-item
invariant-loop-item g l = Grows l.fn.self l.self × All (HasSeat l.self) (receivers (take l.item-index l.item-items))
