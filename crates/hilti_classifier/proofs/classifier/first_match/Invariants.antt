-- The first match so far.
use Rattle.std.proofs.Common.{take}
use Rattle.hilti_classifier.specs.Kept.{IsBest}
use Rattle.hilti_classifier.proofs.classifier.first_match.Given as goal

abbrev pub invariant-loop-at : goal.invariant-loop-at
invariant-loop-at g l = IsBest g.K.PartialEq.eq (take l.at l.rules) l.query l.best
