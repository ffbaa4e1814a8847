use Rattle.hilti_typing.proofs.Exceptions as exceptions
use Rattle.hilti_typing.proofs.laws.exceptions_make_tree.Goals as goal

pub returns : goal.returns
returns c = exceptions.exceptions_make_tree
