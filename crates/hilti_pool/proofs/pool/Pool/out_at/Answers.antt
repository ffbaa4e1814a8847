use Rattle.std.proofs.Common.{◌≡◌, option_map}
use Rattle.hilti_pool.proofs.Causes.{kept_of, shows}
use Rattle.hilti_pool.proofs.Telling.{has_out}
use Rattle.hilti_pool.proofs.pool.Pool.out_at.Goals as goal

pub returns : goal.returns
returns g c =
    let old = c.self.inside in
    let s = c.self.invariant.0 in
    let about = g.B.Body.facts c.self.inside.body.value in
    let kept = kept_of (g.B.Body.effect about) (g.B.Body.sound about) (g.B.Body.runs about) (g.met.B.Body.segments about) old.fed old.limit old.journal.items old.started old.segments old.hall s in
    shows g.B.Body.effect (λ p x. x.out c.args.worker ≡ option_map (λ thread. thread.n) c.out_at.result) _ c.args.self.now s.c c.self.view_is s.is
    (has_out (g.B.Body.runs about) s.c old.hall s.hall_stands old.fed old.limit c.args.worker c.out_at.result kept.0 c.out_at.ensures)
