use Rattle.hilti_classifier.proofs.Kept.{one_more}
use Rattle.hilti_classifier.proofs.classifier.Classifier.add.Goals as goal

pub invariant_of-self-2 : goal.invariant_of-self-2
invariant_of-self-2 g c =
    one_more c.self.inside.rules.items c.push.new.self.items c.self.inside.compiled c.args.self.now (record { wants = c.args.wants; priority = c.args.priority; value = c.args.value })
    c.self.view_is c.in_ok-push.ensures.items c.requires.some c.requires.few c.requires.alike c.requires.nets c.self.invariant
