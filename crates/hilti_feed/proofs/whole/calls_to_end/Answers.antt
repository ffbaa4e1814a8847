use Rattle.std.proofs.Common.{◌≡◌, List, Option, IfSome, OnSome, sym, ◌∙◌, subst}
use Rattle.std.specs.List.{All}
use Rattle.hilti_tree.specs.declared.call.Call.{Call}
use Rattle.hilti_feed.specs.Calls.{IsCallOf}
use Rattle.hilti_feed.proofs.Givings.{CallNow}
use Rattle.hilti_feed.proofs.Wholes.{SoFar, one_more, ending_on, passes_more, not_faulted}
use Rattle.hilti_feed.proofs.whole.calls_to_end.Goals as goal

pub calls-preserved : goal.calls-preserved
calls-preserved g c =
    let before = c.args.progress.now in
    let here = c.calls.progress in
    let after = c.next_call.new.progress in
    let r = g.F.Files.rest c.args.files.now in
    let s = g.F.Files.rest c.calls.files in
    let t = g.F.Files.rest c.next_call.new.files in
    let told = c.in_ok-call.ensures in
    let inv = c.calls.invariant in
    let pushed = c.in_ok-push.ensures.ok in
    let given = subst (λ (next : Option Call). IfSome next (λ call. CallNow call here after s t)) c.in-Some.is told.call in
    let passed = subst (λ (next : Option Call). IfSome next (IsCallOf here.packet here.done)) c.in-Some.is told.passes in
    let goes_on = subst (λ (next : Option Call). OnSome next (after.outcome ≡ here.outcome)) c.in-Some.is told.goes_on in (
      subst (λ (l : List Call). SoFar l before after r t) (sym pushed) (one_more c.calls.calls c.in-Some.call before here after r s t inv.0 given),
      ending_on before here after r s t inv.1 told.ending,
      subst (λ (l : List Call). All (IsCallOf before.packet before.done) l) (sym pushed)
          (passes_more before.packet here.packet before.done here.done c.calls.calls c.in-Some.call inv.3.0 inv.3.1 inv.2 passed),
      (told.made.0 ∙ inv.3.0, told.made.1 ∙ inv.3.1),
      goes_on ∙ inv.4,
      told.files ∙ inv.5,
      told.opened ∙ inv.6,
      not_faulted here.outcome after.outcome (g.F.Files.faults c.calls.files) (g.F.Files.faults c.next_call.new.files) told.faults goes_on ∙ inv.7,
    )
