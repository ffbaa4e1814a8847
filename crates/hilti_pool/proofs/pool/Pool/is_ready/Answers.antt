use Rattle.std.proofs.Common.{◌↔◌, length, nat_lt, IsTrue}
use Rattle.hilti_pool.specs.Readiness.{IsReady}
use Rattle.hilti_pool.proofs.Causes.{shows, goes_ready}
use Rattle.hilti_pool.proofs.Taking.{may_start}
use Rattle.hilti_pool.proofs.pool.Pool.is_ready.Goals as goal

pub returns : goal.returns
returns g c =
    let about = g.B.Body.facts c.self.inside.body.value in
    let old = c.self.inside in
    let s = c.self.invariant.0 in
    let ready = goes_ready (g.B.Body.runs about) s.c old.hall (nat_lt old.started old.limit) old.limit c.args.thread.n s.hall_stands (may_start old.started (length s.c.started) old.limit s.started_are) in
    shows g.B.Body.effect (λ p x. IsTrue c.can_go.result ↔ IsReady p.limit x c.args.thread.n) _ c.args.self.now s.c c.self.view_is s.is (λ x. ready.0 (c.can_go.ensures.0 x), λ y. c.can_go.ensures.1 (ready.1 y))
