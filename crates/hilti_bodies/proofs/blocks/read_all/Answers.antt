use Rattle.std.proofs.Common.{◌∙◌, ◌+◌, ap, length, drop, Ok, Err}
use Rattle.hilti_operands.specs.Seen.{body_seen}
use Rattle.hilti_bodies.specs.Blocks.{read_blocks}
use Rattle.hilti_bodies.specs.Sections.{unlabelled, labelled}
use Rattle.hilti_bodies.proofs.Numbering.{label_next, other_next, none_next}
use Rattle.hilti_bodies.proofs.Following.{behind, first_behind, block_next, block_stops, blocks_read, told_block}
use Rattle.hilti_bodies.proofs.blocks.read_all.Goals.{in-Label+in-Ok+in_ok-push-in-Ok, in-Instruction}
use Rattle.hilti_bodies.proofs.blocks.read_all.Goals as goal

pub loop-at-init : goal.loop-at-init
loop-at-init c =
    first_behind (body_seen c.args.body.now) (unlabelled c.args.lines.now c.args.close) (labelled c.args.lines.now c.args.close) c.in_ok-blocks.blocks c.in_ok-blocks.ensures

pub returns-in-Err : goal.returns-in-Err
returns-in-Err c =
    let seen =
    told_block (body_seen c.args.body.now) (Err c.in-Err.refusal) c.len-number.result (length c.loop-at.blocks) c.in-Label.place c.in-Label.name c.as_slice.result.now c.in-Label.handlers
    c.lines_behind-behind.result.now (drop (c.loop-at.at + 1) c.args.lines.now) c.args.close c.len-number.ensures c.as_slice.ensures c.lines_behind-behind.ensures (c.in-Err.ensures c.in-Label.place) in
    block_stops (body_seen c.args.body.now) _ c.loop-at.blocks _ _ _ _
    (label_next c.args.lines.now c.loop-at.at c.index-lines-at.result _ _ _ c.args.close c.loop-at-test.true c.index-lines-at.is c.in-Label.is) seen c.loop-at.invariant

pub loop-at-preserved : goal.loop-at-preserved
loop-at-preserved c =
    elim c.match-lines-at.branch [
      | in-Label+in-Ok+in_ok-push-in-Ok w ↦
          let seen =
          told_block (body_seen c.args.body.now) (Ok w.in-Ok.block) w.len-number.result (length c.loop-at.blocks) w.in-Label.place w.in-Label.name w.as_slice.result.now w.in-Label.handlers
          w.lines_behind-behind.result.now (drop (c.loop-at.at + 1) c.args.lines.now) c.args.close w.len-number.ensures w.as_slice.ensures w.lines_behind-behind.ensures (w.in-Ok.ensures w.in-Label.place) in
          rw (w.blocks-is, w.in_ok-push-in-Ok.ensures.ok)
          (block_next (body_seen c.args.body.now) _ c.loop-at.blocks _ _ _ _
          (label_next c.args.lines.now c.loop-at.at c.index-lines-at.result _ _ _ c.args.close c.loop-at-test.true c.index-lines-at.is w.in-Label.is) seen c.loop-at.invariant)
      | in-Instruction w ↦
          rw w.blocks-is
          (c.loop-at.invariant ∙ ap (λ rest. behind c.loop-at.blocks (read_blocks (body_seen c.args.body.now) (length c.loop-at.blocks) rest))
          (other_next c.args.lines.now c.loop-at.at c.index-lines-at.result _ _ _ c.args.close c.loop-at-test.true c.index-lines-at.is w.in-Instruction.is))
    ]

pub returns : goal.returns
returns c =
    blocks_read (body_seen c.args.body.now) _ c.loop-at.blocks _ (none_next c.args.lines.now c.loop-at.at c.args.close c.loop-at-test.false) c.loop-at.invariant
