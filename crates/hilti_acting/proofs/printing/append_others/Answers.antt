use Rattle.std.proofs.Common.{◌++◌, codes}
use Rattle.hilti_acting.specs.Printed.{shown_text}
use Rattle.hilti_acting.proofs.Sizes.{texts_more}
use Rattle.hilti_acting.proofs.printing.append_others.Goals as goal

pub loop-item-preserved : goal.loop-item-preserved
loop-item-preserved c =
    texts_more
    (λ item.
    codes " " ++ shown_text c.args.types.now c.args.stack.now.slots c.args.globals.now item)
    c.args.out.now c.loop-item.out c.append_next.new.out c.args.items.now c.loop-item.item-index
    c.item-item.result c.loop-item-test.true c.item-item.is c.loop-item.invariant
    c.in_ok-append_next.ensures
