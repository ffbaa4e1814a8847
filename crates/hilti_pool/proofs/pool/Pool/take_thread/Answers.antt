use Rattle.std.proofs.Common.{◌≡◌, ◌≤◌, None, [], ◌∷◌, ◌++◌, arith, length, subst, sym, refl, ap, ◌∙◌}
use Rattle.hilti_pool.specs.Readiness.{IsReady}
use Rattle.hilti_pool.proofs.Causes.{told, kept_of, few_calls, can_leave}
use Rattle.hilti_pool.proofs.Taking.{took}
use Rattle.hilti_pool.specs.Entries.{AreEntries, entries_from, with_end, entries_of}
use Rattle.hilti_core.specs.declared.event.Event.TheVariants as events
use Rattle.hilti_pool.specs.declared.entries.Entry.TheVariants as tellings
use Rattle.hilti_pool.proofs.Adding.{take_adds, other_entries}
use Rattle.hilti_pool.proofs.pool.Pool.take_thread.Goals as goal

pub send_out-vt-requires-clause-can : goal.send_out-vt-requires-clause-can
send_out-vt-requires-clause-can g c =
    let about = g.B.Body.facts c.self.inside.body.value in
    let old = c.self.inside in
    let s = c.self.invariant.0 in
    let ready = told g.B.Body.effect (λ p x. IsReady p.limit x c.args.thread.n) _ c.args.self.now s.c c.self.view_is s.is c.requires.ready in
    can_leave (g.B.Body.runs about) s.c old.hall old.limit c.args.thread.n s.hall_stands ready

pub send_out-vt-requires-clause-few : goal.send_out-vt-requires-clause-few
send_out-vt-requires-clause-few g c =
    let about = g.B.Body.facts c.self.inside.body.value in
    let old = c.self.inside in
    let s = c.self.invariant.0 in
    let kept = kept_of (g.B.Body.effect about) (g.B.Body.sound about) (g.B.Body.runs about) (g.met.B.Body.segments about) old.fed old.limit old.journal.items old.started old.segments old.hall s in
    let within : length s.c.started ≤ old.limit = kept.0.within in
    let few = few_calls (g.B.Body.effect about) (g.B.Body.sound about) (g.B.Body.runs about) old.fed old.limit old.journal.items old.started old.segments old.hall c.args.thread.n s in
    omega (arith, few, s.started_are, within, s.high)

pub invariant_of-self : goal.invariant_of-self
invariant_of-self g c =
    let about = g.B.Body.facts c.self.inside.body.value in
    let old = c.self.inside in
    let s = c.self.invariant.0 in
    let kept = kept_of (g.B.Body.effect about) (g.B.Body.sound about) (g.B.Body.runs about) (g.met.B.Body.segments about) old.fed old.limit old.journal.items old.started old.segments old.hall s in
    let free = told g.B.Body.effect (λ p x. x.out c.args.worker ≡ None) _ c.args.self.now s.c c.self.view_is s.is c.requires.free in
    let ready = told g.B.Body.effect (λ p x. IsReady p.limit x c.args.thread.n) _ c.args.self.now s.c c.self.view_is s.is c.requires.ready in
    let taken = took (g.B.Body.effect about) (g.B.Body.sound about) (g.B.Body.runs about) old.fed old.limit old.journal.items c.note.new.journal.items old.started c.begun.result old.segments
    old.hall c.send_out-vt.new.self c.args.worker c.args.thread c.send_out-vt.result.0 c.send_out-vt.result.1 s kept.1 free ready c.send_out-vt.ensures c.note.ensures c.begun.ensures in
    (taken.0, tt, subst (λ l. AreEntries old.fed l old.ended) (sym c.note.ensures) (other_entries old.fed old.journal.items old.ended c.self.invariant.2 (events.Take c.args.worker c.args.thread) refl))

pub returns-clause-job : goal.returns-clause-job
returns-clause-job g c =
    let about = g.B.Body.facts c.self.inside.body.value in
    let old = c.self.inside in
    let s = c.self.invariant.0 in
    let kept = kept_of (g.B.Body.effect about) (g.B.Body.sound about) (g.B.Body.runs about) (g.met.B.Body.segments about) old.fed old.limit old.journal.items old.started old.segments old.hall s in
    let free = told g.B.Body.effect (λ p x. x.out c.args.worker ≡ None) _ c.args.self.now s.c c.self.view_is s.is c.requires.free in
    let ready = told g.B.Body.effect (λ p x. IsReady p.limit x c.args.thread.n) _ c.args.self.now s.c c.self.view_is s.is c.requires.ready in
    let taken = took (g.B.Body.effect about) (g.B.Body.sound about) (g.B.Body.runs about) old.fed old.limit old.journal.items c.note.new.journal.items old.started c.begun.result old.segments
    old.hall c.send_out-vt.new.self c.args.worker c.args.thread c.send_out-vt.result.0 c.send_out-vt.result.1 s kept.1 free ready c.send_out-vt.ensures c.note.ensures c.begun.ensures in
    record { core = taken.0.c; is = taken.0.is; holds = taken.1 }

pub returns-clause-entries : goal.returns-clause-entries
returns-clause-entries g c =
    let old = c.self.inside in
    ap (λ l. with_end old.ended (entries_from old.fed l)) c.note.ensures
    ∙ take_adds old.fed old.journal.items old.ended c.self.invariant.2 c.args.worker c.args.thread
    ∙ ap (λ p. entries_of p ++ tellings.Take c.args.worker c.args.thread ∷ []) c.self.view_is
