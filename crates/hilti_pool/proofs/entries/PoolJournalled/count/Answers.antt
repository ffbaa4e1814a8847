use Rattle.std.proofs.Common.{◌∙◌, length, arith, ap}
use Rattle.hilti_pool.specs.Entries.{entries_of}
use Rattle.hilti_pool.proofs.Adding.{count_going, count_ended}
use Rattle.hilti_pool.proofs.entries.PoolJournalled.count.Goals as goal

pub returns-in-Some : goal.returns-in-Some
returns-in-Some g c =
    let old = c.self.inside in
    count_ended old.fed old.journal.items old.ended c.self.invariant.2 c.len-events.result _ (omega (arith, c.len-events.ensures, old.journal.ok.0)) c.in-Some.is
    ∙ ap (λ p. length (entries_of p)) c.self.view_is

pub returns-in-None : goal.returns-in-None
returns-in-None g c =
    let old = c.self.inside in
    count_going old.fed old.journal.items old.ended c.self.invariant.2 c.len-events.result (omega (arith, c.len-events.ensures, old.journal.ok.0)) c.in-None.is
    ∙ ap (λ p. length (entries_of p)) c.self.view_is
