-- No call so far waits for a thread at home.
use Rattle.std.proofs.Common.{All, take}
use Rattle.hilti_pool.specs.Hall.{face, IsAtHome}
use Rattle.hilti_pool.proofs.hall.Hall.first_at_home.Given as goal

abbrev pub invariant-loop-place : goal.invariant-loop-place
invariant-loop-place g l = All (λ posted. ¬ IsAtHome (face l.self posted.to.n).place) (take l.place l.self.mail.items)
