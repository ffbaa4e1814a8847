use Rattle.std.proofs.Common.{◌∙◌, ap, sym}
use Rattle.hilti_resolve.specs.Values.{read_of, takes}
use Rattle.hilti_resolve.proofs.rules.takes.Goals as goal

pub returns-in-Classifier : goal.returns-in-Classifier
returns-in-Classifier c = λ table mean.
    c.is_tuple.ensures table mean ∙ ap (λ double. takes double (read_of table mean c.args.first.now).form) (sym c.in-Classifier.is)
