use Rattle.hilti_typing.proofs.Classifiers as classifiers
use Rattle.hilti_typing.proofs.laws.classifier_rows.Goals as goal

pub returns : goal.returns
returns c = classifiers.classifier_rows
