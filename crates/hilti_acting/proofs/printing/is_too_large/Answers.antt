use Rattle.hilti_acting.proofs.Sizes.{over_most}
use Rattle.hilti_acting.proofs.printing.is_too_large.Goals as goal

pub returns-in_default : goal.returns-in_default
returns-in_default c =
    over_most c.args.stack.now.slots c.args.globals.now c.args.items.now c.loop-item.left
    c.loop-item.item-index c.item-item.result c.value_at.result.now c.loop-item-test.true
    c.item-item.is c.value_at.ensures c.loop-item.invariant c.in_default.ensures.none
