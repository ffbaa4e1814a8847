use denote.Param.Send.{sendable}
use Rattle.std.proofs.Common.{sym, ◌∙◌, subst}
use Rattle.hilti_turn.specs.Passes.{number, about, seen, mine}
use Rattle.hilti_pool.specs.Entries.{entries_of}
use Rattle.hilti_workers.specs.Finding.{entries_of_put}
use Rattle.hilti_workers.specs.Section.{CanPut}
use Rattle.hilti_workers.proofs.Sections.{all_put, can_put, mine_there, knows_there}
use Rattle.hilti_workers.proofs.Sending.{pool_send}
use Rattle.hilti_workers.proofs.turns.put_job.Goals as goal

pub enter-pool-requires-send-V : goal.enter-pool-requires-send-V
enter-pool-requires-send-V g c κs within = search (pool_send, sendable) depth 20

pub leave-requires-send-V : goal.leave-requires-send-V
leave-requires-send-V g c κs within = search (pool_send, sendable) depth 20

pub put_or_give_up-put-requires-after_bounds : goal.put_or_give_up-put-requires-after_bounds
put_or_give_up-put-requires-after_bounds g c κs within =
    let e = c.enter-pool.ensures in
    let old = c.args.pass.now in
    subst (λ w. CanPut g.B.Body.effect g.B.Body.runs c.enter-pool.result w c.args.thread.n c.args.vt c.args.segment)
    (sym (c.number.ensures ∙ e.same.number))
    (can_put g.B.Body.effect g.B.Body.runs c.enter-pool.result (number old) c.args.thread.n c.args.vt c.args.segment
    (seen old) (mine old) (about old) e.about e.begins e.own_entries c.requires.knows c.requires.done)

pub returns-clause-mine : goal.returns-clause-mine
returns-clause-mine g c =
    let e = c.enter-pool.ensures in
    let old = c.args.pass.now in
    mine_there c.number.result (number old) (seen c.enter-pool.new.pass) (entries_of c.enter-pool.result) (entries_of c.put_or_give_up-put.new.pool)
    (λ w. entries_of_put w c.put_or_give_up-put.result) (mine old) (mine c.enter-pool.new.pass) (mine c.leave.new.pass)
    (c.number.ensures ∙ e.same.number) e.seen c.put_or_give_up-put.ensures.entries e.mine c.leave.ensures.mine

pub returns-clause-knows : goal.returns-clause-knows
returns-clause-knows g c =
    let e = c.enter-pool.ensures in
    let old = c.args.pass.now in
    knows_there (number c.leave.new.pass) (number old) c.number.result (λ w. entries_of_put w c.put_or_give_up-put.result) (entries_of c.enter-pool.result) (entries_of c.put_or_give_up-put.new.pool)
    (seen c.enter-pool.new.pass) (seen c.leave.new.pass) (mine old) (mine c.enter-pool.new.pass) (mine c.leave.new.pass)
    (all_put (number old) c.put_or_give_up-put.result) (c.leave.ensures.same.number ∙ e.same.number) (c.number.ensures ∙ e.same.number) e.own_entries c.put_or_give_up-put.ensures.entries e.seen c.leave.ensures.seen e.mine c.leave.ensures.mine
