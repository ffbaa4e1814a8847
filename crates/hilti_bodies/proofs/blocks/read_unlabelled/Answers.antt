use Rattle.std.proofs.Common.{◌∙◌, sym}
use Rattle.hilti_operands.specs.Seen.{body_seen}
use Rattle.hilti_bodies.proofs.Following.{no_block, first_block_stops, first_block}
use Rattle.hilti_bodies.proofs.blocks.read_unlabelled.Goals as goal

pub returns-then-begins_with_label : goal.returns-then-begins_with_label
returns-then-begins_with_label c =
    no_block (body_seen c.args.body.now) c.args.lines.now c.args.close _ (sym c.begins_with_label.ensures ∙ c.if-begins_with_label.true) c.new-blocks.ensures

pub returns-in_ok-push-in-Ok : goal.returns-in_ok-push-in-Ok
returns-in_ok-push-in-Ok c =
    first_block (body_seen c.args.body.now) c.args.lines.now c.args.close _ _ _ _ (sym c.begins_with_label.ensures ∙ c.if-begins_with_label.false) c.in-Ok.ensures c.new.ensures c.new-blocks.ensures c.in_ok-push-in-Ok.ensures.ok

pub returns-in-Err : goal.returns-in-Err
returns-in-Err c =
    first_block_stops (body_seen c.args.body.now) c.args.lines.now c.args.close _ (sym c.begins_with_label.ensures ∙ c.if-begins_with_label.false) c.in-Err.ensures
