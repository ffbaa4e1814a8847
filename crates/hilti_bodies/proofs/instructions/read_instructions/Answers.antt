use Rattle.std.proofs.Common.{◌∙◌, sym, ap, Err}
use Rattle.hilti_operands.specs.Seen.{body_seen}
use Rattle.hilti_bodies.proofs.Following.{told_of, ends_at_label, ends_at_brace, stands_behind, line_next, line_stops}
use Rattle.hilti_bodies.proofs.instructions.read_instructions.Goals as goal

pub returns-in-Label : goal.returns-in-Label
returns-in-Label c =
    told_of c.end_block.result _
    (ends_at_label (body_seen c.args.body.now) c.args.lines.now c.loop-line.line-index c.args.close _ c.loop-line.instructions c.loop-line.ended c.loop-line.invariant c.line-item.result _ _ _ c.loop-line-test.true c.line-item.is c.in-Label.is
    ∙ sym c.end_block.ensures)

pub returns-then-ended : goal.returns-then-ended
returns-then-ended c =
    told_of (Err c.refusal.result) _
    (stands_behind (body_seen c.args.body.now) c.args.lines.now c.loop-line.line-index c.args.close _ c.loop-line.instructions c.loop-line.ended c.loop-line.invariant c.line-item.result _ _ _ c.loop-line-test.true c.line-item.is c.in-Instruction.is c.if-ended.true
    ∙ ap Err (sym c.refusal.ensures))

pub returns-in-Err : goal.returns-in-Err
returns-in-Err c =
    let told = c.in-Err.ensures in
    let seen = rw (c.as_ref.ensures.value, c.as_slice.ensures) at told in
    line_stops (body_seen c.args.body.now) c.args.lines.now c.loop-line.line-index c.args.close _ c.loop-line.instructions c.loop-line.ended c.loop-line.invariant c.line-item.result _ _ _ _ c.loop-line-test.true c.line-item.is c.in-Instruction.is c.if-ended.false seen

pub loop-line-preserved : goal.loop-line-preserved
loop-line-preserved c =
    let told = c.in-Ok.ensures in
    let seen = rw (c.as_ref.ensures.value, c.as_slice.ensures) at told in
    rw (c.in_ok-push-in-Ok.ensures.ok, c.ends-ended.ensures)
    (line_next (body_seen c.args.body.now) c.args.lines.now c.loop-line.line-index c.args.close _ c.loop-line.instructions c.loop-line.ended c.loop-line.invariant c.line-item.result _ _ _ _ c.loop-line-test.true c.line-item.is c.in-Instruction.is c.if-ended.false seen)

pub returns : goal.returns
returns c =
    told_of c.end_block-2.result _
    (ends_at_brace (body_seen c.args.body.now) c.args.lines.now c.loop-line.line-index c.args.close _ c.loop-line.instructions c.loop-line.ended c.loop-line.invariant c.loop-line-test.false
    ∙ sym c.end_block-2.ensures)
