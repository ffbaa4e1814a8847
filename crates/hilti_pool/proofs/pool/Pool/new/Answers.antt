use Rattle.std.proofs.Common.{[], None, subst, sym, refl}
use Rattle.hilti_pool.specs.Entries.{AreEntries}
use Rattle.hilti_pool.proofs.Moves.{nothing_yet}
use Rattle.hilti_pool.proofs.pool.Pool.new.Goals as goal

pub invariant_of-result : goal.invariant_of-result
invariant_of-result g c =
    let about = g.B.Body.facts c.of.result.value in (
      nothing_yet (g.B.Body.effect about) (g.B.Body.sound about) (g.B.Body.runs about) c.new.result c.args.limit c.new-2.result.items c.new-3.result
          c.requires.low c.requires.high c.new.ensures c.new-2.ensures.items c.new-3.ensures.faces c.new-3.ensures.mail c.new-3.ensures.resting c.new-3.ensures.outs c.new-3.ensures.roll,
      tt,
      subst (λ f. AreEntries f c.new-2.result.items None) (sym c.new.ensures) (subst (λ l. AreEntries [] l None) (sym c.new-2.ensures.items) (record { feeds = refl; place = tt })),
    )
