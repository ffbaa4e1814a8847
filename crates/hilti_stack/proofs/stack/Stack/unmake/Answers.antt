use Rattle.std.proofs.Common.{[], ap, ◌∙◌}
use Rattle.hilti_stack.specs.Frames.{with_made}
use Rattle.hilti_stack.proofs.Splits.{made_none}
use Rattle.hilti_stack.proofs.stack.Stack.unmake.Goals as goal

pub returns : goal.returns
returns c =
    let s = c.self.inside in
    made_none s.links.items s.base s.count s.values.items c.self.invariant c.truncate.new.self.items
    c.truncate.ensures.items
    ∙ ap (λ f. with_made f []) c.self.view_is
