use Rattle.std.proofs.Common.{◌∷◌, [], ◌++◌, ap, ◌∙◌}
use Rattle.hilti_stack.specs.Frames.{with_made}
use Rattle.hilti_stack.proofs.Splits.{made_more}
use Rattle.hilti_stack.proofs.stack.Stack.make.Goals as goal

pub returns-clause-ok : goal.returns-clause-ok
returns-clause-ok c =
    let s = c.self.inside in
    made_more s.links.items s.base s.count s.values.items c.self.invariant c.args.value c.push.new.self.items
    c.in_ok-push.ensures.items
    ∙ ap (λ f. with_made f (f.made ++ c.args.value ∷ [])) c.self.view_is
