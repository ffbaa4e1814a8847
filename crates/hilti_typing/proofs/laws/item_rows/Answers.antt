use Rattle.hilti_typing.proofs.Objects as objects
use Rattle.hilti_typing.proofs.laws.item_rows.Goals as goal

pub returns-clause-lists : goal.returns-clause-lists
returns-clause-lists c = objects.lists

pub returns-clause-vectors : goal.returns-clause-vectors
returns-clause-vectors c = objects.vectors

pub returns-clause-sets : goal.returns-clause-sets
returns-clause-sets c = objects.sets
