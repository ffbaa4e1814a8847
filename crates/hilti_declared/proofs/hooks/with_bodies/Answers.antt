use Rattle.std.proofs.Common.{sym}
use Rattle.std.proofs.lemmas.List.{length_push}
use Rattle.hilti_declared.proofs.Grouping.{joined_more, joined_all}
use Rattle.hilti_declared.proofs.hooks.with_bodies.Goals as goal

pub loop-hook-preserved : goal.loop-hook-preserved
loop-hook-preserved c = λ bodies are.
    let steps = c.in-Some.ensures.steps in
    joined_more bodies _ _ _ _ _ _ _ c.in-Some.hook _ _ _ _ _ (c.loop-hook.invariant bodies are) (length_push c.loop-hook.yielded c.in-Some.hook) steps.0 (sym steps.1)
    c.next_of-bodies.ensures.first c.next_of-bodies.ensures.others c.in_ok-push.ensures.ok

pub returns : goal.returns
returns c = λ bodies are. joined_all bodies _ _ _ _ _ _ (c.loop-hook.invariant bodies are) c.in-None.ensures.steps.0
