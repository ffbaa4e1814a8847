use Rattle.std.proofs.Common.{refl, ◌∙◌, ap}
use Rattle.hilti_effects.specs.Effect.{uncaught_line}
use Rattle.hilti_machine.proofs.Asking.{raisers}
use Rattle.hilti_machine.proofs.Ending.{raised_on, raised_by}
use Rattle.hilti_machine.proofs.leaving.hand_on.Goals as goal

pub raised-requires-clause-callers : goal.raised-requires-clause-callers
raised-requires-clause-callers c =
    let left = c.requires.left.left in
    raisers c.args.program.now left.kinds c.args.calling.now.stack.below left.ends.below_are

pub returns-in-Ok-clause-leads : goal.returns-in-Ok-clause-leads
returns-in-Ok-clause-leads c all number ran left =
    raised_on c.args.program.now all c.args.items.now c.args.exception c.args.text
    c.args.calling.now _ c.args.memory.now _ number ran (record { function = refl; fuel = refl })
    left refl c.in-Ok.ensures.on

pub returns-in_ok-push-in-Err-clause-leads : goal.returns-in_ok-push-in-Err-clause-leads
returns-in_ok-push-in-Err-clause-leads c all number ran left =
    raised_by c.args.program.now all c.args.items.now c.args.exception c.args.text
    c.args.calling.now
    (record c.args.calling.now { stack = c.raised.new.stack }) c.args.memory.now
    c.raised.new.memory number ran (record { function = refl; fuel = refl }) left
    c.in_ok-line-in-Err.line c.push.new.self
    (c.in_ok-line-in-Err.ensures
    ∙ ap (λ text. uncaught_line c.args.program.now c.args.exception text
    c.args.calling.now.function)
    (c.bytes.ensures ∙ c.in-Err.ensures.over.0))
    c.in_ok-push-in-Err.ensures.ok c.in-Err.ensures.over.1
