use Rattle.hilti_classifier.proofs.Kept.{no_rules}
use Rattle.hilti_classifier.proofs.classifier.Classifier.new.Goals as goal

pub invariant_of-result : goal.invariant_of-result
invariant_of-result g c = no_rules c.new.result.items c.new.ensures.items
