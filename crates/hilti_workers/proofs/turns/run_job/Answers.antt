use Rattle.hilti_turn.specs.Passes.{number, about, seen}
use Rattle.hilti_workers.proofs.Sections.{job_can, job_done}
use Rattle.hilti_workers.proofs.turns.run_job.Goals as goal

pub run-requires-after_bounds : goal.run-requires-after_bounds
run-requires-after_bounds g c κs within =
    let job = c.args.job in
    let pass = c.args.pass.now in
    job_can g.B.Body.effect g.B.Body.runs g.B.Body.sound (g.B.Body.facts c.args.body.now) (number pass) job.thread.n job.vt job.next (seen pass) (about pass)
    c.requires.about c.requires.job
