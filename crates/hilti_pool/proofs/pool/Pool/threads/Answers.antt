use Rattle.std.proofs.Common.{arith}
use Rattle.hilti_pool.specs.Roll.{HasThreads}
use Rattle.hilti_pool.proofs.Causes.{shows}
use Rattle.hilti_pool.proofs.pool.Pool.threads.Goals as goal

pub returns : goal.returns
returns g c =
    let s = c.self.invariant.0 in
    shows g.B.Body.effect (λ p x. HasThreads c.len.result x) _ c.args.self.now s.c c.self.view_is s.is
    (record { roll = c.self.inside.hall.roll.items; is = s.hall_stands.roll; count = omega (arith, c.len.ensures, c.self.inside.hall.roll.ok.0) })
