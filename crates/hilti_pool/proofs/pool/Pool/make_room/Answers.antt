use Rattle.std.proofs.Common.{refl, subst, sym, vec_len, vec_capacity}
use Rattle.hilti_pool.specs.Hall.{HasRoom}
use Rattle.hilti_pool.proofs.Moves.{stays}
use Rattle.hilti_pool.proofs.Rooms.{rooms_stay}
use Rattle.hilti_pool.specs.Entries.{AreEntries}
use Rattle.hilti_pool.proofs.pool.Pool.make_room.Goals as goal

pub invariant_of-self-in_err-reserve-2 : goal.invariant_of-self-in_err-reserve-2
invariant_of-self-in_err-reserve-2 g c =
    let about = g.B.Body.facts c.self.inside.body.value in
    let old = c.self.inside in
    let hall = c.reserve-2.new.self in
    let journal = c.reserve.new.self in
    let e = c.in_ok-reserve.ensures in
    let grows = c.in_err-reserve-2.ensures.grows in (
      stays (g.B.Body.effect about) (g.B.Body.sound about) (g.B.Body.runs about) old.fed old.fed old.limit old.journal.items journal.items old.started old.segments old.hall hall c.self.invariant.0 refl e.items grows,
      rooms_stay (λ items. items.value) old.room old.hall hall (vec_len old.journal) (vec_capacity old.journal) (vec_len journal) (vec_capacity journal) grows e.len e.capacity c.self.invariant.1,
      subst (λ l. AreEntries old.fed l old.ended) (sym e.items) c.self.invariant.2,
    )

pub invariant_of-self-2 : goal.invariant_of-self-2
invariant_of-self-2 g c =
    let about = g.B.Body.facts c.self.inside.body.value in
    let old = c.self.inside in
    let hall = c.reserve-2.new.self in
    let journal = c.reserve.new.self in
    let e = c.in_ok-reserve.ensures in
    let made = c.in_ok-reserve-2.ensures in (
      stays (g.B.Body.effect about) (g.B.Body.sound about) (g.B.Body.runs about) old.fed old.fed old.limit old.journal.items journal.items old.started old.segments old.hall hall c.self.invariant.0 refl e.items made.grows,
      (subst (λ items. HasRoom items hall) (sym c.of.ensures) made.room, e.ok),
      subst (λ l. AreEntries old.fed l old.ended) (sym e.items) c.self.invariant.2,
    )
