use Rattle.std.proofs.Common.{refl, subst, sym, take, ◌+◌}
use Rattle.hilti_classifier.specs.Kept.{IsBest}
use Rattle.hilti_classifier.proofs.First.{past_match, past_other}
use Rattle.hilti_classifier.proofs.classifier.first_match.Goals as goal
use Rattle.hilti_classifier.proofs.classifier.first_match.Goals.{then-matches, else-matches}

pub loop-at-preserved : goal.loop-at-preserved
loop-at-preserved g c =
    let eq = g.K.PartialEq.eq in
    let rules = c.args.rules.now in
    let query = c.args.query.now in
    let at = c.loop-at.at in
    let rule = c.index-rules-at.result in
    elim c.if-matches.branch [
      | then-matches w ↦ subst (λ best. IsBest eq (take (at + 1) rules) query best) (sym w.best-is)
          (past_match eq query rules at rule c.loop-at-test.true c.index-rules-at.is c.loop-at.best _ w.better.result refl w.better.ensures (c.matches.ensures.0 w.if-matches.true) c.loop-at.invariant)
      | else-matches w ↦ subst (λ best. IsBest eq (take (at + 1) rules) query best) (sym w.best-is)
          (past_other eq query rules at rule c.loop-at-test.true c.index-rules-at.is c.loop-at.best (λ fits. cc (w.if-matches.false, c.matches.ensures.1 fits)) c.loop-at.invariant)
    ]
