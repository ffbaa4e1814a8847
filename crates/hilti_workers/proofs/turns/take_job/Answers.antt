use denote.Param.Send.{sendable}
use Rattle.std.proofs.Common.{sym, ◌∙◌}
use Rattle.hilti_turn.specs.Passes.{number, seen, mine}
use Rattle.hilti_pool.specs.Entries.{entries_of}
use Rattle.hilti_workers.specs.Finding.{entries_of_take}
use Rattle.hilti_workers.proofs.Sections.{all_taken, knows_there}
use Rattle.hilti_workers.proofs.Sending.{pool_send}
use Rattle.hilti_workers.proofs.turns.take_job.Goals as goal

pub enter-pool-requires-send-V : goal.enter-pool-requires-send-V
enter-pool-requires-send-V g c κs within = search (pool_send, sendable) depth 20

pub leave-requires-send-V : goal.leave-requires-send-V
leave-requires-send-V g c κs within = search (pool_send, sendable) depth 20

pub returns-clause-knows : goal.returns-clause-knows
returns-clause-knows g c =
    let e = c.enter-pool.ensures in
    let old = c.args.pass.now in
    knows_there (number c.leave.new.pass) (number old) c.number.result (λ w. entries_of_take w c.take_or_give_up-taken.result) (entries_of c.enter-pool.result) (entries_of c.take_or_give_up-taken.new.pool)
    (seen c.enter-pool.new.pass) (seen c.leave.new.pass) (mine old) (mine c.enter-pool.new.pass) (mine c.leave.new.pass)
    (all_taken (number old) c.take_or_give_up-taken.result) (c.leave.ensures.same.number ∙ e.same.number) (c.number.ensures ∙ e.same.number) e.own_entries c.take_or_give_up-taken.ensures.entries e.seen c.leave.ensures.seen e.mine c.leave.ensures.mine
