use Rattle.std.proofs.Common.{rules}
use Rattle.hilti_declared.proofs.Priorities.{sorted_by}
use Rattle.hilti_declared.proofs.hooks.sort_bodies.Goals as goal

pub returns : goal.returns
returns c =
    let sort = c.in_ok-sort_by.ensures in
    sorted_by _ _ sort.permutation sort.sorted sort.stable (λ a r q k. search rules)
