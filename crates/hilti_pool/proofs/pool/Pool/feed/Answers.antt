use Rattle.std.proofs.Common.{[], ◌∷◌, ◌++◌, ap, ◌∙◌, subst, sym, vec_len, vec_capacity}
use Rattle.hilti_pool.proofs.Moves.{stays, fed_on}
use Rattle.hilti_pool.proofs.Rooms.{rooms_stay}
use Rattle.hilti_pool.specs.Entries.{AreEntries, entries_from, with_end, entries_of}
use Rattle.hilti_core.specs.declared.event.Event.TheVariants as events
use Rattle.hilti_pool.specs.declared.entries.Entry.TheVariants as tellings
use Rattle.hilti_pool.proofs.Adding.{feed_adds, fed_entries}
use Rattle.hilti_pool.proofs.pool.Pool.feed.Goals as goal

pub invariant_of-self : goal.invariant_of-self
invariant_of-self g c =
    let about = g.B.Body.facts c.self.inside.body.value in
    let old = c.self.inside in
    let new = c.admit-admitted.new in
    let e = c.in-Err.ensures in (
      stays (g.B.Body.effect about) (g.B.Body.sound about) (g.B.Body.runs about) old.fed new.fed old.limit old.journal.items new.journal.items old.started old.segments old.hall new.hall
          c.self.invariant.0 e.err e.journal e.grows,
      rooms_stay (λ items. items.value) old.room old.hall new.hall (vec_len old.journal) (vec_capacity old.journal) (vec_len new.journal) (vec_capacity new.journal)
          e.grows e.journal_room.0 e.journal_room.1 c.self.invariant.1,
      subst (λ f. AreEntries f new.journal.items old.ended) (sym e.err) (subst (λ l. AreEntries old.fed l old.ended) (sym e.journal) c.self.invariant.2),
    )

pub invariant_of-self-2 : goal.invariant_of-self-2
invariant_of-self-2 g c =
    let about = g.B.Body.facts c.self.inside.body.value in
    let old = c.self.inside in
    let new = c.admit-admitted.new in
    let d = c.in_default.ensures in
    let is_sound : g.B.Body.sound about c.args.call = subst (λ p. g.B.Body.sound p.about c.args.call) (sym c.self.view_is) c.requires in (
      fed_on (g.B.Body.effect about) (g.B.Body.sound about) (g.B.Body.runs about) old.fed new.fed old.limit old.journal.items new.journal.items c.note.new.journal.items old.started old.segments
          old.hall new.hall c.post.new.self c.args.call c.self.invariant.0 is_sound d.ok d.journal c.note.ensures d.grows d.seat c.post.ensures.seats c.post.ensures.resting c.post.ensures.outs c.post.ensures.roll c.post.ensures.mail,
      tt,
      subst (λ f. AreEntries f c.note.new.journal.items old.ended) (sym d.ok) (subst (λ l. AreEntries (old.fed ++ c.args.call ∷ []) l old.ended) (sym (c.note.ensures ∙ ap (λ l. l ++ events.Feed ∷ []) d.journal))
          (fed_entries old.fed old.journal.items old.ended c.self.invariant.2 c.args.call)),
    )

pub returns-clause-entries : goal.returns-clause-entries
returns-clause-entries g c =
    let old = c.self.inside in
    let d = c.in_default.ensures in
    ap (λ f. with_end old.ended (entries_from f c.note.new.journal.items)) d.ok
    ∙ ap (λ l. with_end old.ended (entries_from (old.fed ++ c.args.call ∷ []) l)) (c.note.ensures ∙ ap (λ l. l ++ events.Feed ∷ []) d.journal)
    ∙ feed_adds old.fed old.journal.items old.ended c.self.invariant.2 c.args.call
    ∙ ap (λ p. entries_of p ++ tellings.Feed c.args.call ∷ []) c.self.view_is
