-- Each field so far fits.
use Rattle.std.proofs.Common.{take, length}
use Rattle.std.specs.List.{AllZip}
use Rattle.hilti_classifier.specs.Matches.{Fits}
use Rattle.hilti_classifier.proofs.classifier.Rule.matches.Given as goal

abbrev pub invariant-loop-want : goal.invariant-loop-want
invariant-loop-want g l = AllZip (Fits g.K.PartialEq.eq) (take (length l.yielded) l.self.wants) (take (length l.yielded) l.query)
