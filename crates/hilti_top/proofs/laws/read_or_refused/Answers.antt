use Rattle.hilti_top.proofs.Exclusion.{not_long, not_unread}
use Rattle.hilti_top.proofs.laws.read_or_refused.Goals as goal

pub returns-clause-lengths : goal.returns-clause-lengths
returns-clause-lengths c = not_long

pub returns-clause-reading : goal.returns-clause-reading
returns-clause-reading c = not_unread c.never_both.ensures
