use Rattle.std.proofs.Common.{ap, sym, ◌∙◌, ◌++◌, ◌∷◌, []}
use Rattle.hilti_declared.proofs.Blocks.{given_more, given_all}
use Rattle.hilti_declared.proofs.functions.make_functions.Goals as goal

pub loop-function-preserved : goal.loop-function-preserved
loop-function-preserved c =
    let steps = c.in-Some.ensures.steps in
    given_more _ _ _ _ _ _ _ _ _ _ _ _ c.loop-function.invariant steps.0 (sym steps.1) c.next_of-own.ensures.first c.next_of-own.ensures.others
    (c.in_ok-push.ensures.ok ∙ ap (λ f. c.loop-function.functions ++ f ∷ []) c.in_ok-make_function.ensures)

pub returns : goal.returns
returns c = given_all _ _ _ _ _ _ c.loop-function.invariant c.in-None.ensures.steps.0
