use Rattle.std.proofs.Common.{◌≡◌, ◌++◌, ◌∷◌, [], sym, ap, ◌∙◌, arith, option_to_list}
use Rattle.hilti_stack.specs.Frames.{Frames}
use Rattle.hilti_stack.proofs.Splits.{leave_base, leave_below, leave_made, leave_stands}
use Rattle.hilti_stack.proofs.stack.Stack.leave.Goals as goal

pub overflow_sub-self : goal.overflow_sub-self
overflow_sub-self c =
    let s = c.self.inside in
    let last : s.links.items ≡ c.pop.new.self.items ++ c.in-Some.link ∷ [] =
    c.pop.ensures.items ∙ ap (λ o. c.pop.new.self.items ++ option_to_list o) c.in-Some.is in
    omega (
      arith,
      leave_base s.links.items s.base s.count s.values.items c.self.invariant c.in-Some.link
          c.pop.new.self.items last,
    )

pub invariant_of-self : goal.invariant_of-self
invariant_of-self c =
    let s = c.self.inside in
    let last : s.links.items ≡ c.pop.new.self.items ++ c.in-Some.link ∷ [] =
    c.pop.ensures.items ∙ ap (λ o. c.pop.new.self.items ++ option_to_list o) c.in-Some.is in
    leave_stands s.links.items s.base s.count s.values.items c.self.invariant c.in-Some.link
    c.pop.new.self.items last c.truncate.new.self.items c.truncate.ensures.items

pub returns-in-Some-clause-some : goal.returns-in-Some-clause-some
returns-in-Some-clause-some c =
    let s = c.self.inside in
    let last : s.links.items ≡ c.pop.new.self.items ++ c.in-Some.link ∷ [] =
    c.pop.ensures.items ∙ ap (λ o. c.pop.new.self.items ++ option_to_list o) c.in-Some.is in
    record {
      caller = sym (ap (λ (f : Frames). f.below) c.self.view_is)
          ∙ leave_below s.links.items s.base s.count s.values.items c.self.invariant c.in-Some.link
          c.pop.new.self.items last c.truncate.new.self.items c.truncate.ensures.items;
      made = leave_made s.links.items s.base s.count s.values.items c.self.invariant c.in-Some.link
          c.pop.new.self.items last c.truncate.new.self.items c.truncate.ensures.items;
    }
