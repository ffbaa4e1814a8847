use Rattle.std.proofs.Common.{refl, ap, ◌∙◌, arith}
use Rattle.hilti_stack.specs.Frames.{entered}
use Rattle.hilti_stack.proofs.Splits.{enter_frames, enter_stands}
use Rattle.hilti_stack.proofs.stack.Stack.enter.Goals as goal

pub invariant_of-self-2 : goal.invariant_of-self-2
invariant_of-self-2 c =
    let s = c.self.inside in
    enter_stands s.links.items s.base s.count s.values.items c.self.invariant c.args.head _ c.push.new.self.items _
    c.in_ok-push.ensures.items refl (omega arith)

pub returns-clause-ok : goal.returns-clause-ok
returns-clause-ok c =
    let s = c.self.inside in
    enter_frames s.links.items s.base s.count s.values.items c.self.invariant c.args.head _ c.push.new.self.items _
    c.in_ok-push.ensures.items refl (omega arith) refl
    ∙ ap (λ f. entered f c.args.head) c.self.view_is
