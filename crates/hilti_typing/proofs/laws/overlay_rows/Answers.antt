use Rattle.hilti_typing.proofs.Classifiers as classifiers
use Rattle.hilti_typing.proofs.laws.overlay_rows.Goals as goal

pub returns : goal.returns
returns c = classifiers.overlay_rows
