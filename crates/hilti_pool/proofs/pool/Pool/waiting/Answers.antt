use Rattle.std.proofs.Common.{◌∙◌}
use Rattle.hilti_pool.specs.Readiness.{HasWaiting}
use Rattle.hilti_pool.proofs.Causes.{shows, waiting_are}
use Rattle.hilti_pool.proofs.pool.Pool.waiting.Goals as goal

pub returns : goal.returns
returns g c =
    let s = c.self.invariant.0 in
    let about = g.B.Body.facts c.self.inside.body.value in
    shows g.B.Body.effect (λ p x. HasWaiting x c.len.result) _ c.args.self.now s.c c.self.view_is s.is
    (waiting_are (g.B.Body.runs about) s.c c.self.inside.hall c.len.result s.hall_stands (c.len.ensures ∙ c.self.inside.hall.mail.ok.0))
