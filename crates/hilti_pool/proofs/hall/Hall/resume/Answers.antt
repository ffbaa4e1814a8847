use Rattle.std.proofs.Common.{ap, ◌∙◌}
use Rattle.hilti_pool.proofs.Seats.{wakes_by}
use Rattle.hilti_pool.proofs.hall.Hall.resume.Goals as goal

pub returns-clause-resting : goal.returns-clause-resting
returns-clause-resting g c =
    wakes_by c.args.thread.n c.args.self.now.resting.items c.leave.new.self.resting.items (ap (λ v. v.items) c.leave.ensures.resting ∙ c.wake.ensures.resting)
