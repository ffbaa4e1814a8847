use Rattle.std.proofs.Common.{◌≡◌}
use Rattle.hilti_gen.specs.Generator.{state, step}
use Rattle.hilti_gen.proofs.Captures.{written}
use Rattle.hilti_gen.proofs.generator.capture.Given as goal

-- the next state is that of the next packet, and the packets so far are written
abbrev pub invariant-loop-number : goal.invariant-loop-number
invariant-loop-number l = record {
  next : state l.seed l.number ≡ step l.x;
  so_far : l.blob ≡ written l.seed l.flows l.number;
}
