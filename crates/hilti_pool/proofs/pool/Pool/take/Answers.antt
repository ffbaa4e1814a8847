use Rattle.std.proofs.Common.{length, nat_lt, subst, sym}
use Rattle.hilti_pool.specs.declared.job.Taken.TheVariants.{Job, Nothing, Limit, Finished}
use Rattle.hilti_pool.specs.Readiness.{IsReady}
use Rattle.hilti_pool.specs.Taking.{HasCause}
use Rattle.hilti_pool.proofs.Causes.{shows, kept_of, is_ready}
use Rattle.hilti_pool.proofs.Taking.{may_start, none_if, idles, rests_idle, at_limit, finished}
use Rattle.hilti_pool.proofs.pool.Pool.take.Goals as goal

pub take_thread-requires-clause-ready : goal.take_thread-requires-clause-ready
take_thread-requires-clause-ready g c =
    let about = g.B.Body.facts c.self.inside.body.value in
    let old = c.self.inside in
    let s = c.self.invariant.0 in
    let may = may_start old.started (length s.c.started) old.limit s.started_are in
    λ κs within. shows g.B.Body.effect (λ p x. IsReady p.limit x c.in-Some.thread.n) _ c.args.self.now s.c c.self.view_is s.is
    (is_ready (g.B.Body.runs about) s.c old.hall (nat_lt old.started old.limit) old.limit c.in-Some.thread s.hall_stands may.0 c.in-Some.ensures)

pub returns-in-Some-clause-cause : goal.returns-in-Some-clause-cause
returns-in-Some-clause-cause g c =
    let about = g.B.Body.facts c.self.inside.body.value in
    let old = c.self.inside in
    let s = c.self.invariant.0 in
    let may = may_start old.started (length s.c.started) old.limit s.started_are in
    let ready = is_ready (g.B.Body.runs about) s.c old.hall (nat_lt old.started old.limit) old.limit c.in-Some.thread s.hall_stands may.0 c.in-Some.ensures in
    shows g.B.Body.effect (λ p x. HasCause {B = g.row.B.Denot} {V = g.row.B-Vt.Denot} {D = g.row.B-Data.Denot} p x (Job c.take_thread.result)) _ c.args.self.now s.c c.self.view_is s.is (c.if-self.false, subst (λ t. IsReady old.limit s.c t.n) (sym c.take_thread.ensures.thread) ready)

pub returns-then-has_out-clause-cause : goal.returns-then-has_out-clause-cause
returns-then-has_out-clause-cause g c =
    let about = g.B.Body.facts c.self.inside.body.value in
    let old = c.self.inside in
    let s = c.self.invariant.0 in
    let may = may_start old.started (length s.c.started) old.limit s.started_are in
    let kept = kept_of (g.B.Body.effect about) (g.B.Body.sound about) (g.B.Body.runs about) (g.met.B.Body.segments about) old.fed old.limit old.journal.items old.started old.segments old.hall s in
    shows g.B.Body.effect (λ p x. HasCause {B = g.row.B.Denot} {V = g.row.B-Vt.Denot} {D = g.row.B-Data.Denot} p x Nothing) _ c.args.self.now s.c c.self.view_is s.is (c.if-self.false, idles (g.B.Body.effect about) (g.B.Body.sound about) (g.B.Body.runs about) old.fed old.limit s.c old.hall (nat_lt old.started old.limit) old.ended s.hall_stands kept.0 may.1 c.in_default.ensures c.if-has_out.ensures)

pub returns-then-has_any_mail-clause-cause : goal.returns-then-has_any_mail-clause-cause
returns-then-has_any_mail-clause-cause g c =
    let about = g.B.Body.facts c.self.inside.body.value in
    let old = c.self.inside in
    let s = c.self.invariant.0 in
    let may = may_start old.started (length s.c.started) old.limit s.started_are in
    let kept = kept_of (g.B.Body.effect about) (g.B.Body.sound about) (g.B.Body.runs about) (g.met.B.Body.segments about) old.fed old.limit old.journal.items old.started old.segments old.hall s in
    shows g.B.Body.effect (λ p x. HasCause {B = g.row.B.Denot} {V = g.row.B-Vt.Denot} {D = g.row.B-Data.Denot} p x Limit) _ c.args.self.now s.c c.self.view_is s.is (c.if-self.false, at_limit (g.B.Body.effect about) (g.B.Body.sound about) (g.B.Body.runs about) old.fed old.limit s.c old.hall (nat_lt old.started old.limit) s.hall_stands kept.0 may.1 c.in_default.ensures c.if-has_out.ensures c.if-has_any_mail.ensures)

pub returns-then-is_none-clause-cause : goal.returns-then-is_none-clause-cause
returns-then-is_none-clause-cause g c =
    let about = g.B.Body.facts c.self.inside.body.value in
    let old = c.self.inside in
    let s = c.self.invariant.0 in
    let may = may_start old.started (length s.c.started) old.limit s.started_are in
    shows g.B.Body.effect (λ p x. HasCause {B = g.row.B.Denot} {V = g.row.B-Vt.Denot} {D = g.row.B-Data.Denot} p x Nothing) _ c.args.self.now s.c c.self.view_is s.is (c.if-self.false, rests_idle (g.B.Body.effect about) (g.B.Body.sound about) (g.B.Body.runs about) old.fed old.limit s.c old.hall (nat_lt old.started old.limit) old.ended s.hall_stands may.1 c.in_default.ensures c.if-has_any_mail.ensures (none_if old.ended c.if-is_none.ensures))

pub returns-clause-cause : goal.returns-clause-cause
returns-clause-cause g c =
    let about = g.B.Body.facts c.self.inside.body.value in
    let old = c.self.inside in
    let s = c.self.invariant.0 in
    let may = may_start old.started (length s.c.started) old.limit s.started_are in
    let kept = kept_of (g.B.Body.effect about) (g.B.Body.sound about) (g.B.Body.runs about) (g.met.B.Body.segments about) old.fed old.limit old.journal.items old.started old.segments old.hall s in
    shows g.B.Body.effect (λ p x. HasCause {B = g.row.B.Denot} {V = g.row.B-Vt.Denot} {D = g.row.B-Data.Denot} p x Finished) _ c.args.self.now s.c c.self.view_is s.is (c.if-self.false, finished (g.B.Body.effect about) (g.B.Body.sound about) (g.B.Body.runs about) old.fed old.limit s.c old.hall (nat_lt old.started old.limit) old.ended s.hall_stands kept.0 may.1 c.in_default.ensures c.if-has_out.ensures c.if-has_any_mail.ensures c.if-is_none.ensures)
