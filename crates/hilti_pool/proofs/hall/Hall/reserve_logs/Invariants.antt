-- The logs of the threads so far have room.
use Rattle.std.proofs.Common.{All, take}
use Rattle.hilti_pool.specs.Hall.{Grows, HasLogRoom}
use Rattle.hilti_pool.proofs.hall.Hall.reserve_logs.Given as goal

abbrev pub invariant-loop-place : goal.invariant-loop-place
invariant-loop-place g l = Grows l.fn.self l.self × All (λ away. HasLogRoom l.count l.self away.thread.n) (take l.place l.self.outs.items)
