use denote.Param.Send.{sendable}
use Rattle.std.proofs.Common.{◌++◌, ap, sym, ◌∙◌, refl}
use Rattle.hilti_turn.specs.Passes.{number, about, seen, mine}
use Rattle.hilti_pool.specs.Entries.{entries_of, subject_of}
use Rattle.hilti_workers.specs.Feeding.{entries_of_feed}
use Rattle.hilti_workers.proofs.Sections.{goes_on, mine_there, at_some}
use Rattle.hilti_workers.proofs.Feeds.{all_fed}
use Rattle.hilti_workers.proofs.Sending.{pool_send}
use Rattle.hilti_workers.proofs.feeding.feed_call.Goals as goal

pub enter-pool-requires-send-V : goal.enter-pool-requires-send-V
enter-pool-requires-send-V g c κs within = search (pool_send, sendable) depth 20

pub leave-requires-send-V : goal.leave-requires-send-V
leave-requires-send-V g c κs within = search (pool_send, sendable) depth 20

pub feed_or_give_up-fed-requires-after_bounds : goal.feed_or_give_up-fed-requires-after_bounds
feed_or_give_up-fed-requires-after_bounds g c κs within =
    at_some (about c.args.pass.now) (subject_of c.enter-pool.result) (λ subject. g.B.Body.sound subject.body c.args.call) c.enter-pool.ensures.about c.requires.sound

pub leave-requires-clause-grows : goal.leave-requires-clause-grows
leave-requires-clause-grows g c κs within =
    let e = c.enter-pool.ensures in
    let fed = c.feed_or_give_up-fed in
    goes_on 0 (number c.enter-pool.new.pass) (seen c.enter-pool.new.pass) (entries_of fed.new.pool) (entries_of_feed c.args.call fed.result)
    (sym (e.same.number ∙ c.requires.feeds))
    (fed.ensures.entries ∙ ap (λ l. l ++ entries_of_feed c.args.call fed.result) (sym e.seen))
    (all_fed c.args.call fed.result)

pub returns-clause-mine : goal.returns-clause-mine
returns-clause-mine g c =
    let e = c.enter-pool.ensures in
    let fed = c.feed_or_give_up-fed in
    mine_there 0 0 (seen c.enter-pool.new.pass) (entries_of c.enter-pool.result) (entries_of fed.new.pool)
    (λ _. entries_of_feed c.args.call fed.result) (mine c.args.pass.now) (mine c.enter-pool.new.pass) (mine c.leave.new.pass)
    refl e.seen fed.ensures.entries e.mine c.leave.ensures.mine
