use denote.Param.Send.{sendable}
use Rattle.std.proofs.Common.{[], ◌∷◌, ◌++◌, ap, sym, ◌∙◌, refl, ◌≡◌, append-nil}
use Rattle.std.proofs.lemmas.List.Elements.{All-nil}
use Rattle.hilti_turn.specs.Passes.{number, seen, mine}
use Rattle.hilti_pool.specs.Entries.{entries_of, maker_of}
use Rattle.hilti_workers.proofs.Sections.{goes_on, knows_there}
use Rattle.hilti_workers.proofs.Sending.{pool_send}
use Rattle.hilti_workers.proofs.turns.break_off.Goals as goal

pub enter-pool-requires-send-V : goal.enter-pool-requires-send-V
enter-pool-requires-send-V g c κs within = search (pool_send, sendable) depth 20

pub leave-requires-send-V : goal.leave-requires-send-V
leave-requires-send-V g c κs within = search (pool_send, sendable) depth 20

pub leave-requires-clause-grows : goal.leave-requires-clause-grows
leave-requires-clause-grows g c κs within =
    let pass = c.enter-pool.new.pass in
    goes_on (number pass) (number pass) (seen pass) (entries_of c.give_up.new.self) [] refl
    (ap entries_of c.give_up.ensures ∙ sym c.enter-pool.ensures.seen ∙ sym (append-nil (seen pass)))
    (All-nil (λ e. maker_of e ≡ number pass))

pub returns-clause-knows : goal.returns-clause-knows
returns-clause-knows g c =
    let e = c.enter-pool.ensures in
    let old = c.args.pass.now in
    knows_there (number c.leave.new.pass) (number old) (number old) (λ _. []) (entries_of c.enter-pool.result) (entries_of c.give_up.new.self)
    (seen c.enter-pool.new.pass) (seen c.leave.new.pass) (mine old) (mine c.enter-pool.new.pass) (mine c.leave.new.pass)
    (All-nil (λ e. maker_of e ≡ number old)) (c.leave.ensures.same.number ∙ e.same.number) refl e.own_entries
    (ap entries_of c.give_up.ensures ∙ sym (append-nil (entries_of c.enter-pool.result))) e.seen c.leave.ensures.seen e.mine c.leave.ensures.mine
