-- No call so far is for the thread.
use Rattle.std.proofs.Common.{take}
use Rattle.hilti_pool.specs.Hall.{NoneFor}
use Rattle.hilti_pool.proofs.hall.Hall.place_of.Given as goal

abbrev pub invariant-loop-place : goal.invariant-loop-place
invariant-loop-place g l = NoneFor l.thread.n (take l.place l.self.mail.items)
