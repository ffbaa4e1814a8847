-- A try that was interrupted took nothing.
use Rattle.std.specs.Io.KnownBytes.{Keeps}
use Rattle.hilti_outside.proofs.interrupted.read.Given as goal

abbrev pub invariant-tries : goal.invariant-tries
invariant-tries g l = Keeps (g.F.Read.remaining l.fn.file) (g.F.Read.remaining l.file)
