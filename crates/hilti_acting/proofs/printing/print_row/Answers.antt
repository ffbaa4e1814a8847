use Rattle.hilti_acting.proofs.Lines.{line_said}
use Rattle.hilti_acting.proofs.printing.print_row.Goals as goal

pub returns : goal.returns
returns c =
    line_said c.args.program.now c.parts.result.now c.args.p.now c.args.stack.now
    c.args.memory.now c.args.items.now c.append_items.new.out c.new-text.result
    c.as_slice.result.now c.as_slice-2.result.now c.is_too_large.result c.parts.ensures.is
    c.new-text.ensures c.as_slice.ensures.value c.as_slice-2.ensures.value
    c.is_too_large.ensures c.if-is_too_large.false c.in_ok-append_items.ensures
    c.requires.stands
