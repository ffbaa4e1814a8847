use Rattle.std.proofs.Common.{◌≡◌, subst, cond}
use Rattle.hilti_effects.specs.Operands.{value_at}
use Rattle.hilti_scalar_ops.specs.Computing.{truth_of}
use Rattle.hilti_acting.proofs.Answering.{chosen_owned}
use Rattle.hilti_acting.proofs.scalars.select_row.Goals as goal

pub give-requires-clause-owned : goal.give-requires-clause-owned
give-requires-clause-owned c =
    chosen_owned c.args.stack.now c.args.memory.now.globals.items
    (truth_of (value_at c.args.stack.now.slots c.args.memory.now.globals.items c.args.test.now))
    c.args.yes.now c.args.no.now c.chosen-source.result.now c.in_ok-value.value
    c.requires.first_free c.requires.second_free
    (subst (λ gs. cond (truth_of (value_at c.args.stack.now.slots gs c.args.test.now))
    (value_at c.args.stack.now.slots gs c.args.yes.now)
    (value_at c.args.stack.now.slots gs c.args.no.now) ≡ c.chosen-source.result.now)
    c.as_slice.ensures.value c.chosen-source.ensures)
    c.in_ok-value.ensures
