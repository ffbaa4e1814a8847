use Rattle.std.proofs.Common.{ap, ◌∙◌, ◌++◌, ◌∷◌, []}
use Rattle.hilti_declared.specs.Hooks.{lists_from}
use Rattle.hilti_declared.proofs.Grouping.{one_list_more}
use Rattle.hilti_declared.proofs.hooks.empty_lists.Goals as goal

pub loop-i-init : goal.loop-i-init
unfolding lists_from
loop-i-init c = c.new-lists.ensures.items

pub loop-i-preserved : goal.loop-i-preserved
loop-i-preserved c =
    let old = c.loop-i.lists.items in
    c.in_ok-push.ensures.items ∙ ap (λ l. old ++ l ∷ []) c.new.ensures ∙ ap (λ l. l ++ [] ∷ []) c.loop-i.invariant ∙ one_list_more c.loop-i._i
