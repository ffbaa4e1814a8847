-- No entry so far has the serial.
use Rattle.std.proofs.Common.{◌≡◌, take}
use Rattle.std.specs.List.{All}
use Rattle.hilti_timers.proofs.manager.place.Given as goal

abbrev pub invariant-loop-at : goal.invariant-loop-at
invariant-loop-at g l = All (λ w. ¬ (w.serial.n ≡ l.serial.n)) (take l.at l.entries)
