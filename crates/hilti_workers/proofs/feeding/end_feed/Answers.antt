use denote.Param.Send.{sendable}
use Rattle.std.proofs.Common.{◌++◌, ap, sym, ◌∙◌, subst, Contains}
use Rattle.hilti_turn.specs.Passes.{number, seen, mine}
use Rattle.hilti_pool.specs.declared.entries.Entry.TheVariants.{FeedEnd}
use Rattle.hilti_pool.specs.Entries.{entries_from, entries_of}
use Rattle.hilti_workers.proofs.Sections.{goes_on}
use Rattle.hilti_workers.proofs.Listed.{ended_feed}
use Rattle.hilti_workers.proofs.Feeds.{ended_more, ended_mine, ended_some}
use Rattle.hilti_workers.proofs.Sending.{pool_send}
use Rattle.hilti_workers.proofs.feeding.end_feed.Goals as goal

pub enter-pool-requires-send-V : goal.enter-pool-requires-send-V
enter-pool-requires-send-V g c κs within = search (pool_send, sendable) depth 20

pub leave-requires-send-V : goal.leave-requires-send-V
leave-requires-send-V g c κs within = search (pool_send, sendable) depth 20

pub leave-requires-clause-grows : goal.leave-requires-clause-grows
leave-requires-clause-grows g c κs within =
    let e = c.enter-pool.ensures in
    let more = ended_more c.enter-pool.result.ended (entries_of c.enter-pool.result) (entries_of c.end_feed.new.self) c.end_feed.ensures.entries in
    goes_on 0 (number c.enter-pool.new.pass) (seen c.enter-pool.new.pass) (entries_of c.end_feed.new.self) more.0
    (sym (e.same.number ∙ c.requires.feeds)) (more.1 ∙ ap (λ l. l ++ more.0) (sym e.seen)) more.2

pub returns-clause-mine : goal.returns-clause-mine
returns-clause-mine g c =
    let e = c.enter-pool.ensures in
    let more = ended_more c.enter-pool.result.ended (entries_of c.enter-pool.result) (entries_of c.end_feed.new.self) c.end_feed.ensures.entries in
    ended_mine (seen c.enter-pool.new.pass) (entries_of c.enter-pool.result) (entries_of c.end_feed.new.self) more.0
    (mine c.args.pass.now) (mine c.enter-pool.new.pass) (mine c.leave.new.pass) e.seen more.1 more.3 e.mine c.leave.ensures.mine

pub returns-clause-ended : goal.returns-clause-ended
returns-clause-ended g c =
    let pool = c.end_feed.new.self in
    subst (λ l. Contains l FeedEnd) (sym c.leave.ensures.seen)
    (ended_feed pool.ended (entries_from pool.fed pool.journal) (ended_some c.enter-pool.result pool c.end_feed.ensures.pool))
