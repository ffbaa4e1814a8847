use Rattle.std.proofs.Common.{ap, sym, subst}
use Rattle.hilti_turn.specs.Journal.{made_by}
use Rattle.hilti_pool.specs.Entries.{entries_of, maker_of}
use Rattle.hilti_pool.specs.Work.{IsJob}
use Rattle.hilti_workers.specs.Entries.{AreEven}
use Rattle.hilti_workers.proofs.Standing.{is_free}
use Rattle.hilti_workers.proofs.Answered.{found_in, still_stands}
use Rattle.hilti_workers.proofs.section.take_or_give_up.Goals as goal

pub take-requires-clause-free : goal.take-requires-clause-free
take-requires-clause-free g c κs within =
    is_free g.B.Body.effect c.args.worker c.make_room-2.new.self c.in_default.ensures.standing
    (subst (λ l. AreEven (made_by maker_of c.args.worker l)) (sym (ap entries_of c.in_default.ensures.ok)) c.requires)

pub returns-clause-found : goal.returns-clause-found
returns-clause-found g c =
    let e = c.take.ensures in
    found_in g.B.Body.effect c.make_room-2.new.self g.B.Body.sound g.B.Body.runs c.args.worker c.take.new.self c.take.result
    c.in_default.ensures.standing e.cause e.pool e.job

pub returns-clause-standing : goal.returns-clause-standing
returns-clause-standing g c =
    let e = c.take.ensures in
    let new = c.take.new.self in
    still_stands g.B.Body.effect c.make_room-2.new.self c.args.worker new c.take.result
    (λ job. IsJob (g.B.Body.sound new.about) (g.B.Body.runs new.about) c.args.worker job.thread.n job.vt job.next)
    c.in_default.ensures.standing e.pool e.job
