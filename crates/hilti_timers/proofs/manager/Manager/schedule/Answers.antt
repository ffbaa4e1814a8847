use Rattle.std.proofs.Common.{refl}
use Rattle.hilti_timers.proofs.Steps.{pushed, pushed_apart}
use Rattle.hilti_timers.proofs.manager.Manager.schedule.Goals as goal

pub invariant_of-self-2 : goal.invariant_of-self-2
invariant_of-self-2 g c =
    let items = c.self.inside.entries.items in
    pushed_apart items items c.args.self.now refl c.self.view_is
    (record { due = c.args.due; serial = c.args.serial; entry = c.args.entry }) _ c.in_default.ensures.items c.requires c.self.invariant

pub returns-clause-ok : goal.returns-clause-ok
returns-clause-ok g c =
    let items = c.self.inside.entries.items in
    pushed items items c.args.self.now refl c.self.view_is
    (record { due = c.args.due; serial = c.args.serial; entry = c.args.entry }) _ c.in_default.ensures.items c.requires
