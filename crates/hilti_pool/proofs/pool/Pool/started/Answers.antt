use Rattle.std.proofs.Common.{length, ◌≡◌}
use Rattle.hilti_pool.proofs.Causes.{shows}
use Rattle.hilti_pool.proofs.pool.Pool.started.Goals as goal

pub returns : goal.returns
returns g c =
    let s = c.self.invariant.0 in
    shows g.B.Body.effect (λ p x. c.self.inside.started ≡ length x.started) _ c.args.self.now s.c c.self.view_is s.is s.started_are
