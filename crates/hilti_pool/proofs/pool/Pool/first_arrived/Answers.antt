use Rattle.std.proofs.Common.{option_map}
use Rattle.hilti_pool.specs.Readiness.{IsFirst}
use Rattle.hilti_pool.proofs.Causes.{shows}
use Rattle.hilti_pool.proofs.Telling.{is_first}
use Rattle.hilti_pool.proofs.pool.Pool.first_arrived.Goals as goal

pub returns : goal.returns
returns g c =
    let s = c.self.invariant.0 in
    let about = g.B.Body.facts c.self.inside.body.value in
    shows g.B.Body.effect (λ p x. IsFirst x (option_map (λ thread. thread.n) c.first_arrived.result)) _ c.args.self.now s.c c.self.view_is s.is
    (is_first (g.B.Body.runs about) s.c c.self.inside.hall s.hall_stands c.first_arrived.result c.first_arrived.ensures)
