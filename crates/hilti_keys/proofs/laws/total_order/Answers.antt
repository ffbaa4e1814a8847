use Rattle.hilti_keys.proofs.Total.{equal_exactly, turns, carries}
use Rattle.hilti_keys.proofs.laws.total_order.Goals as goal

pub returns-clause-equal : goal.returns-clause-equal
returns-clause-equal c = equal_exactly

pub returns-clause-turned : goal.returns-clause-turned
returns-clause-turned c = turns

pub returns-clause-through : goal.returns-clause-through
returns-clause-through c = carries
