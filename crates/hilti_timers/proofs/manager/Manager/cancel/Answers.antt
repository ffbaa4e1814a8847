use Rattle.std.proofs.Common.{ap, refl, sym, ◌∙◌}
use Rattle.std.specs.Option.{option_map}
use Rattle.hilti_timers.proofs.Steps.{none_got, none_removed, some_entry, taken_apart, taken_away}
use Rattle.hilti_timers.proofs.manager.Manager.cancel.Goals as goal

pub returns-in_err-at-clause-entry : goal.returns-in_err-at-clause-entry
returns-in_err-at-clause-entry g c =
    c.from_residual.ensures
    ∙ sym (ap (option_map (λ w. w.1))
    (none_got c.self.inside.entries.items c.deref.result.now c.args.self.now c.deref.ensures.value c.self.view_is c.args.serial.n (c.in_err-at.ensures.none refl)))

pub returns-in_err-at-clause-removed : goal.returns-in_err-at-clause-removed
returns-in_err-at-clause-removed g c =
    none_removed c.self.inside.entries.items c.deref.result.now c.args.self.now c.deref.ensures.value c.self.view_is c.args.serial.n (c.in_err-at.ensures.none refl)

pub invariant_of-self : goal.invariant_of-self
invariant_of-self g c =
    taken_apart c.self.inside.entries.items c.deref.result.now c.args.self.now c.deref.ensures.value c.self.view_is
    c.in_ok-at.at c.args.serial.n c.remove-waiting.result _ c.remove-waiting.ensures.items c.in_ok-at.ensures.some c.self.invariant

pub returns-clause-entry : goal.returns-clause-entry
returns-clause-entry g c =
    some_entry c.self.inside.entries.items c.deref.result.now c.args.self.now c.deref.ensures.value c.self.view_is
    c.in_ok-at.at c.args.serial.n c.remove-waiting.result c.remove-waiting.ensures.value c.in_ok-at.ensures.some c.self.invariant

pub returns-clause-removed : goal.returns-clause-removed
returns-clause-removed g c =
    taken_away c.self.inside.entries.items c.deref.result.now c.args.self.now c.deref.ensures.value c.self.view_is
    c.in_ok-at.at c.args.serial.n c.remove-waiting.result _ c.remove-waiting.ensures.items c.in_ok-at.ensures.some c.self.invariant
