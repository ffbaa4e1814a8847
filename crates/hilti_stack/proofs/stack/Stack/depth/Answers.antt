use Rattle.std.proofs.Common.{◌≡◌, length, ap, sym, ◌∙◌, rules}
use Rattle.std.specs.Vec.{vec_len}
use Rattle.hilti_stack.specs.Frames.{Frames}
use Rattle.hilti_stack.proofs.Splits.{split_length}
use Rattle.hilti_stack.proofs.stack.Stack.depth.Goals as goal

pub returns : goal.returns
returns c =
    let s = c.self.inside in
    let all : vec_len s.links ≡ length s.links.items = search rules in
    c.len.ensures ∙ all ∙ sym (split_length s.links.items s.values.items)
    ∙ ap (λ (f : Frames). length f.below) c.self.view_is
