use Rattle.std.proofs.Common.{◌≡◌, ◌<◌, length, set, slice_get, refl, ap, sym, ◌∙◌, arith, rules}
use Rattle.hilti_stack.specs.Frames.{Frames, with_slots}
use Rattle.hilti_stack.proofs.Splits.{set_slot, slot_at, slots_length}
use Rattle.hilti_stack.proofs.stack.Stack.set.Goals as goal

pub returns-clause-stack : goal.returns-clause-stack
returns-clause-stack c =
    let s = c.self.inside in
    let less : c.args.n < s.count = omega (
      arith,
      c.requires,
      ap (λ (f : Frames). length f.slots) c.self.view_is,
      slots_length s.links.items s.base s.count s.values.items c.self.invariant,
    ) in
    let put : c.replace.new.dest ≡ c.args.value = search rules in
    set_slot s.links.items s.base s.count s.values.items c.self.invariant c.args.n c.replace.new.dest _ less refl
    ∙ ap (λ (f : Frames). with_slots f (set f.slots c.args.n c.replace.new.dest)) c.self.view_is
    ∙ ap (λ v. with_slots c.args.self.now (set c.args.self.now.slots c.args.n v)) put

pub returns-clause-value : goal.returns-clause-value
returns-clause-value c =
    let s = c.self.inside in
    let less : c.args.n < s.count = omega (
      arith,
      c.requires,
      ap (λ (f : Frames). length f.slots) c.self.view_is,
      slots_length s.links.items s.base s.count s.values.items c.self.invariant,
    ) in
    sym (ap (λ (f : Frames). slice_get f.slots c.args.n) c.self.view_is)
    ∙ slot_at s.links.items s.base s.count s.values.items c.self.invariant c.args.n _ _ less
    (c.replace.ensures.value ∙ c.index_mut.ensures.value)
