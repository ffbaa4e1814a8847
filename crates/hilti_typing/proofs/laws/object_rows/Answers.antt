use Rattle.hilti_typing.proofs.Objects as objects
use Rattle.hilti_typing.proofs.laws.object_rows.Goals as goal

pub returns : goal.returns
returns c = objects.object_rows
