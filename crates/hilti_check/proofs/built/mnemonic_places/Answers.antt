use Rattle.std.proofs.Common.{sym, ◌∙◌, ap, ◌++◌, append-nil}
use Rattle.std.specs.List.{flat_map}
use Rattle.std.proofs.lemmas.List.{take_all}
use Rattle.hilti_check.specs.Built.{mnemonic_place}
use Rattle.hilti_check.proofs.Scanning.{noted}
use Rattle.hilti_check.proofs.built.mnemonic_places.Goals.{in-Instruction+in_ok-push-in-Instruction, in-Label}
use Rattle.hilti_check.proofs.built.mnemonic_places.Goals as goal

pub loop-line-preserved : goal.loop-line-preserved
loop-line-preserved c =
    let lines = c.args.lines.now in
    let all = noted mnemonic_place lines c.loop-line.line-index c.line-item.result c.loop-line.places c.loop-line-test.true c.line-item.is c.loop-line.invariant in
    elim c.match-line.branch [
      | in-Instruction+in_ok-push-in-Instruction w ↦
          w.places-is ∙ w.in_ok-push-in-Instruction.ensures.ok ∙ sym (ap (λ line. c.loop-line.places ++ mnemonic_place line) w.in-Instruction.is) ∙ all
      | in-Label w ↦
          w.places-is ∙ sym (append-nil c.loop-line.places) ∙ sym (ap (λ line. c.loop-line.places ++ mnemonic_place line) w.in-Label.is) ∙ all
    ]

pub returns : goal.returns
returns c = c.loop-line.invariant ∙ ap (λ l. flat_map mnemonic_place l) (take_all c.loop-line.line-index c.args.lines.now c.loop-line-test.false)
