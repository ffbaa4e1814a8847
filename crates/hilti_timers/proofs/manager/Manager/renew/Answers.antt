use Rattle.std.proofs.Common.{ap, refl, sym}
use Rattle.std.specs.Option.{is_some}
use Rattle.hilti_timers.proofs.Steps.{none_got, none_renewed, put_apart, some_got, some_renewed}
use Rattle.hilti_timers.proofs.manager.Manager.renew.Goals as goal

pub returns-in_default-clause-found : goal.returns-in_default-clause-found
returns-in_default-clause-found g c =
    sym (ap is_some
    (none_got c.self.inside.entries.items c.deref.result.now c.args.self.now c.deref.ensures.value c.self.view_is c.args.serial.n (c.in_default.ensures.none refl)))

pub returns-in_default-clause-renewed : goal.returns-in_default-clause-renewed
returns-in_default-clause-renewed g c =
    none_renewed c.self.inside.entries.items c.deref.result.now c.args.self.now c.deref.ensures.value c.self.view_is
    c.args.serial.n c.args.due c.args.fresh.n (c.in_default.ensures.none refl)

pub invariant_of-self : goal.invariant_of-self
invariant_of-self g c =
    put_apart c.self.inside.entries.items c.deref.result.now c.args.self.now c.deref.ensures.value c.self.view_is
    c.in-Some.at c.args.serial.n (record { due = c.args.due; serial = c.args.fresh; entry = c.index_mut-waiting.result.now.entry }) c.requires c.in-Some.ensures.some c.self.invariant

pub returns-clause-found : goal.returns-clause-found
returns-clause-found g c =
    sym (ap is_some
    (some_got c.self.inside.entries.items c.deref.result.now c.args.self.now c.deref.ensures.value c.self.view_is
    c.in-Some.at c.args.serial.n c.index_mut-waiting.result.now c.in-Some.ensures.some c.self.invariant))

pub returns-clause-renewed : goal.returns-clause-renewed
returns-clause-renewed g c =
    some_renewed c.self.inside.entries.items c.deref.result.now c.args.self.now c.deref.ensures.value c.self.view_is
    c.in-Some.at c.args.serial.n c.index_mut-waiting.result.now (record { due = c.args.due; serial = c.args.fresh; entry = c.index_mut-waiting.result.now.entry })
    c.index_mut-waiting.ensures.value refl c.requires c.in-Some.ensures.some c.self.invariant
