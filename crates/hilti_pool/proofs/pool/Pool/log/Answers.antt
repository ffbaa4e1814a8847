use Rattle.std.proofs.Common.{◌∙◌, ap, sym, arith}
use Rattle.hilti_pool.specs.State.{core_of}
use Rattle.hilti_pool.proofs.Telling.{log_told, log_ends, match_weaker}
use Rattle.hilti_pool.proofs.pool.Pool.log.Goals as goal

pub log-requires : goal.log-requires
log-requires g c =
    let s = c.self.invariant.0 in
    λ r here. let ran = (s.hall_stands.roll.each r).0 here in let calls = (s.hall_stands.seats r).calls in omega (arith, ran, calls)

pub returns : goal.returns
returns g c =
    let s = c.self.invariant.0 in
    let about = g.B.Body.facts c.self.inside.body.value in
    let runs = g.B.Body.runs about in
    let hall = c.self.inside.hall in
    record {
      core = s.c;
      is = sym (ap (core_of g.B.Body.effect) c.self.view_is) ∙ s.is;
      holds = match_weaker _ _ _ _ _ (log_ends runs s.c hall s.hall_stands c.args.place) (λ x. log_told runs s.c hall s.hall_stands c.args.place x.0.n x.1 x.2.now) c.log.ensures;
    }
