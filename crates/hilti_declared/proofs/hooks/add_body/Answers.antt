use Rattle.std.proofs.Common.{ap, ap₂, sym, ◌∙◌, arith, length, ◌<◌, ◌≤◌, set, ◌++◌, ◌∷◌, [], get_or, rules}
use Rattle.hilti_declared.proofs.Grouping.{put, behind, length_lists}
use Rattle.hilti_declared.proofs.hooks.add_body.Goals as goal

pub returns-in_ok-push : goal.returns-in_ok-push
returns-in_ok-push c = λ before count are.
    let body = c.args.body in
    let old = c.index_mut.result.now in
    let below : body.hook < length c.args.lists.now.items = search rules in
    let counted = ap length are ∙ length_lists before 0 count in
    let new = c.in_ok-push.ensures.ok ∙ ap (λ l. l ++ body.function ∷ []) (c.index_mut.ensures.value ∙ ap (λ l. get_or l body.hook old) are) in
    ap₂ (λ l x. set l body.hook x) are new ∙ sym (put before body 0 count body.hook old (omega arith) (omega (arith, below, counted)))

pub returns-else-hook-len : goal.returns-else-hook-len
returns-else-hook-len c = λ before count are.
    let body = c.args.body in
    let past : length c.args.lists.now.items ≤ body.hook = search rules in
    let counted = ap length are ∙ length_lists before 0 count in
    are ∙ sym (behind before body 0 count (omega (arith, past, counted)))
