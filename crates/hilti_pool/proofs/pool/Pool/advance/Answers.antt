use Rattle.std.proofs.Common.{ap, ◌∙◌}
use Rattle.hilti_pool.proofs.Working.{job_runs}
use Rattle.hilti_pool.proofs.pool.Pool.advance.Goals as goal

pub run-requires-after_bounds : goal.run-requires-after_bounds
run-requires-after_bounds g c =
    let job = c.take_thread-job in
    λ κs within.
    job_runs g.B.Body.sound g.B.Body.runs job.new.self.about (g.B.Body.facts c.args.body.now) c.args.worker c.args.thread.n job.result.thread.n job.result.vt job.result.next job.ensures.job.core
    (ap (λ p. p.about) job.ensures.pool ∙ ap (λ p. p.about) c.in_ok-make_room.ensures.ok ∙ c.requires.about) (ap (λ t. t.n) job.ensures.thread) job.ensures.job.holds
