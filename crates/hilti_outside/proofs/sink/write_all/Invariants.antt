-- A front of the text was written, and the rest is left.
use Rattle.std.proofs.Common.{◌≡◌, ℕ, List, ◌++◌, length}
use Rattle.hilti_outside.specs.Contents.{Grows}
use Rattle.hilti_outside.proofs.sink.write_all.Given as goal

abbrev pub invariant-pieces : goal.invariant-pieces
invariant-pieces g l =
    ((front : List ℕ) × (front ++ l.rest ≡ l.text) × Grows (g.S.Sink.written l.fn.sink) (g.S.Sink.written l.sink) front)
    × (g.S.Sink.faults l.sink ≡ g.S.Sink.faults l.fn.sink)

abbrev pub decreases-pieces : goal.decreases-pieces
decreases-pieces g l = length l.rest
