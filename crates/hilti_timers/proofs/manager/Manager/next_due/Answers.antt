use Rattle.hilti_timers.proofs.Steps.{is_next, is_nothing}
use Rattle.hilti_timers.proofs.manager.Manager.next_due.Goals as goal

pub returns-clause-some : goal.returns-clause-some
returns-clause-some g c =
    is_next c.self.inside.entries.items c.deref.result.now c.args.self.now c.deref.ensures.value c.self.view_is c.args.t c.least.result c.self.invariant c.least.ensures

pub returns-clause-none : goal.returns-clause-none
returns-clause-none g c =
    is_nothing c.self.inside.entries.items c.deref.result.now c.args.self.now c.deref.ensures.value c.self.view_is c.args.t c.least.result c.least.ensures
