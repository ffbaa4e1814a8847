use Rattle.std.proofs.Common.{ap, map, subst, sym, take, ◌∙◌, add-one}
use Rattle.hilti_timers.specs.Kept.{IsLeast, stamp}
use Rattle.hilti_timers.proofs.Steps.{stamps_more}
use Rattle.hilti_timers.proofs.manager.least.Goals as goal

pub loop-waiting-preserved : goal.loop-waiting-preserved
loop-waiting-preserved g c =
    let i = c.loop-waiting.waiting-index in
    let entries = c.args.entries.now in
    subst (λ stamps. IsLeast c.args.t stamps c.earlier-best.result)
    (sym (ap (λ n. map stamp (take n entries)) (add-one i) ∙ stamps_more entries i c.waiting-item.result c.loop-waiting-test.true c.waiting-item.is))
    (c.earlier-best.ensures (map stamp (take i entries)) c.loop-waiting.invariant)
