use Rattle.std.proofs.Common.{[], ◌∷◌, ◌++◌, subst, sym, refl, ◌+◌, ◌≤◌, ◌∙◌, vec_len, vec_capacity, ap}
use Rattle.hilti_pool.specs.Hall.{HasRoom}
use Rattle.hilti_pool.specs.Work.{IsDone}
use Rattle.hilti_pool.proofs.Causes.{told, kept_of}
use Rattle.hilti_pool.proofs.Homecoming.{was_out, put_back}
use Rattle.hilti_pool.proofs.Rooms.{room_for}
use Rattle.hilti_pool.specs.Entries.{AreEntries, entries_from, with_end, entries_of}
use Rattle.hilti_core.specs.declared.event.Event.TheVariants as events
use Rattle.hilti_pool.specs.declared.entries.Entry.TheVariants as tellings
use Rattle.hilti_pool.proofs.Adding.{put_adds, other_entries}
use Rattle.hilti_pool.proofs.pool.Pool.put.Goals as goal

pub give_back-requires-clause-out : goal.give_back-requires-clause-out
give_back-requires-clause-out g c =
    let about = g.B.Body.facts c.self.inside.body.value in
    let old = c.self.inside in
    let s = c.self.invariant.0 in
    let kept = kept_of (g.B.Body.effect about) (g.B.Body.sound about) (g.B.Body.runs about) (g.met.B.Body.segments about) old.fed old.limit old.journal.items old.started old.segments old.hall s in
    let d = told g.B.Body.effect (λ p x. IsDone (g.B.Body.effect p.about) (g.B.Body.runs p.about) c.args.worker c.args.thread.n c.args.vt c.args.segment x) _ c.args.self.now s.c c.self.view_is s.is c.requires.done in
    (s.hall_stands.outs c.args.worker c.args.thread).1 (was_out (g.B.Body.effect about) (g.B.Body.sound about) (g.B.Body.runs about) old.fed old.limit c.args.worker c.args.thread.n s.c old.hall s.hall_stands kept.0 d.out)

pub invariant_of-self : goal.invariant_of-self
invariant_of-self g c =
    let about = g.B.Body.facts c.self.inside.body.value in
    let old = c.self.inside in
    let s = c.self.invariant.0 in
    let kept = kept_of (g.B.Body.effect about) (g.B.Body.sound about) (g.B.Body.runs about) (g.met.B.Body.segments about) old.fed old.limit old.journal.items old.started old.segments old.hall s in
    let d = told g.B.Body.effect (λ p x. IsDone (g.B.Body.effect p.about) (g.B.Body.runs p.about) c.args.worker c.args.thread.n c.args.vt c.args.segment x) _ c.args.self.now s.c c.self.view_is s.is c.requires.done in
    let room = room_for (λ items. items.value) c.args.segment.items old.room (λ items. HasRoom items old.hall × (vec_len old.journal + 1 ≤ vec_capacity old.journal)) (ap (λ p. p.room) c.self.view_is ∙ c.requires.room) c.self.invariant.1 in (
      put_back (g.B.Body.effect about) (g.B.Body.sound about) (g.B.Body.runs about) old.fed old.limit old.journal.items c.note.new.journal.items old.started old.segments old.hall c.give_back.new.self
          c.args.worker c.args.thread c.args.vt c.args.segment s kept.0 kept.1 (g.met.B.Body.segments about) d room.0.seats c.give_back.ensures.yielded c.give_back.ensures.ended c.note.ensures,
      tt,
      subst (λ l. AreEntries old.fed l old.ended) (sym c.note.ensures) (other_entries old.fed old.journal.items old.ended c.self.invariant.2 (events.Put c.args.worker) refl),
    )

pub returns-clause-entries : goal.returns-clause-entries
returns-clause-entries g c =
    let old = c.self.inside in
    ap (λ l. with_end old.ended (entries_from old.fed l)) c.note.ensures
    ∙ put_adds old.fed old.journal.items old.ended c.self.invariant.2 c.args.worker
    ∙ ap (λ p. entries_of p ++ tellings.Put c.args.worker ∷ []) c.self.view_is
