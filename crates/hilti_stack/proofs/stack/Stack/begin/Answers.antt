use Rattle.std.proofs.Common.{◌≡◌, length, ap, ◌∙◌, arith}
use Rattle.hilti_stack.specs.Frames.{Frames, begun}
use Rattle.hilti_stack.proofs.Splits.{begin_frames, slots_length}
use Rattle.hilti_stack.proofs.stack.Stack.begin.Goals as goal

pub returns : goal.returns
returns c =
    let s = c.self.inside in
    let none : s.count ≡ 0 = omega (
      arith,
      ap (λ (f : Frames). length f.slots) c.self.view_is,
      ap length c.requires,
      slots_length s.links.items s.base s.count s.values.items c.self.invariant,
    ) in
    begin_frames s.links.items s.base s.count s.values.items c.self.invariant _ none (omega arith)
    ∙ ap begun c.self.view_is
