use Rattle.std.proofs.Common.{rules}
use Rattle.std.proofs.lemmas.Fn.{filter_same}
use Rattle.hilti_pool.proofs.hall.Hall.wake.Goals as goal

pub returns-clause-resting : goal.returns-clause-resting
returns-clause-resting g c = filter_same _ _ _ (λ x b f' k. search rules) _ _ c.retain.ensures.filtered
