use Rattle.std.proofs.Common.{arith}
use Rattle.hilti_bodies.proofs.Numbering.{label_next, other_next, none_next, begins, one_noted, same_rest, all_noted, all_counted}
use Rattle.hilti_bodies.proofs.labels.Labels.of.Goals.{in-Label+in_ok-note-in-Label, in-Instruction}
use Rattle.hilti_bodies.proofs.labels.Labels.of.Goals as goal

pub loop-line-init : goal.loop-line-init
loop-line-init c = ((λ close. begins c.new-numbers.result c.args.lines.now close _ c.new-numbers.ensures (c.count_unlabelled-blocks.ensures.count close)), c.count_unlabelled-blocks.ensures.few)

pub loop-line-preserved : goal.loop-line-preserved
loop-line-preserved c =
    elim c.match-line.branch [
      | in-Label+in_ok-note-in-Label w ↦
          rw (w.numbers-is, w.blocks-is)
          ((λ close. one_noted _ _ c.loop-line.blocks _ _ close _ _ _ (label_next c.args.lines.now c.loop-line.line-index c.line-item.result _ _ _ close c.loop-line-test.true c.line-item.is w.in-Label.is) (λ word. rw w.bytes.ensures at (w.in_ok-note-in-Label.ensures.noted word)) (c.loop-line.invariant.0 close)), omega (arith, c.loop-line.invariant.1))
      | in-Instruction w ↦
          rw (w.numbers-is, w.blocks-is)
          ((λ close. same_rest _ _ _ _ _ (other_next c.args.lines.now c.loop-line.line-index c.line-item.result _ _ _ close c.loop-line-test.true c.line-item.is w.in-Instruction.is) (c.loop-line.invariant.0 close)), omega (arith, c.loop-line.invariant.1))
    ]

pub returns-clause-numbered : goal.returns-clause-numbered
returns-clause-numbered c = λ close. all_noted _ _ _ _ (none_next c.args.lines.now c.loop-line.line-index close c.loop-line-test.false) (c.loop-line.invariant.0 close)

pub returns-clause-counted : goal.returns-clause-counted
returns-clause-counted c = λ close. all_counted _ _ _ _ (none_next c.args.lines.now c.loop-line.line-index close c.loop-line-test.false) (c.loop-line.invariant.0 close)
