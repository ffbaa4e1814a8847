use Rattle.hilti_types.specs.Depths.{declared_depth}
use Rattle.hilti_types.specs.Sendable.{declared_sendable}
use Rattle.hilti_types.proofs.InTurn.{told_at}
use Rattle.hilti_types.proofs.laws.told_over_those_before.Goals as goal

pub returns-clause-sendable : goal.returns-clause-sendable
returns-clause-sendable c = told_at declared_sendable

pub returns-clause-depth : goal.returns-clause-depth
returns-clause-depth c = told_at declared_depth
