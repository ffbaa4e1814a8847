-- Each entry stands for its name from then on.
use Rattle.std.proofs.Common.{◌≡◌, ap, ◌∙◌, nat_eq}
use Rattle.std.specs.Cmp.Lexicographic.{pointwise}
use Rattle.hilti_outside.proofs.Found.{none_below, found_here, found_before}
use Rattle.hilti_outside.proofs.shelf.find.Goals as goal
use Rattle.hilti_outside.proofs.shelf.find.Goals.{then-eq, else-eq}

pub loop-at-init : goal.loop-at-init
loop-at-init c = none_below c.args.entries.now c.args.name.now

pub loop-at-preserved : goal.loop-at-preserved
loop-at-preserved c =
    let here = c.index-entries-at.result in
    let name_is : pointwise nat_eq c.bytes.result.now c.args.name.now ≡ pointwise nat_eq here.name c.args.name.now = ap (λ n. pointwise nat_eq n c.args.name.now) c.bytes.ensures in
    elim c.if-eq.branch [
      | then-eq w ↦ found_here c.args.entries.now c.loop-at.at c.args.name.now here _ c.loop-at-test.true c.index-entries-at.is (w.if-eq.ensures ∙ name_is) w.found-is
      | else-eq w ↦ found_before c.args.entries.now c.loop-at.at c.args.name.now here _ _ c.loop-at-test.true c.index-entries-at.is (w.if-eq.ensures ∙ name_is) w.found-is c.loop-at.invariant
    ]
