-- A caller that takes a result.
use Rattle.std.proofs.Common.{◌≡◌, [], ◌∷◌, ◌++◌, sym, ap, ◌∙◌, Option, None}
use Rattle.hilti_calls.specs.Calls.{Back.On}
use Rattle.hilti_effects.specs.Acting.{at, resume}
use Rattle.hilti_effects.specs.Operands.{slots_taking, globals_taking}
use Rattle.hilti_effects.specs.declared.ending.Ending.TheVariants as endings
use Rattle.hilti_heap.specs.Kept.{Kept}
use Rattle.hilti_parts.specs.declared.parts.Parts.{Parts}
use Rattle.hilti_parts.specs.declared.parts.Variable.{Variable}
use Rattle.hilti_stack.specs.declared.head.Head.{Head}
use Rattle.hilti_stack.specs.declared.head.Head.TheVariants as heads
use Rattle.hilti_stack.specs.declared.head.Position.{Position}
use Rattle.hilti_stack.specs.Frames.{Frames, frame, with_slots, Leaves}
use Rattle.hilti_values.specs.declared.value.Value.{Value}
use Rattle.hilti_acting.specs.Acts.{thread}
use Rattle.hilti_acting.specs.Owned.{FitsWith, Fewer}
use Rattle.hilti_acting.specs.Returns.{Resumes}
use Rattle.hilti_acting.specs.declared.memory.Memory.{Memory}
use Rattle.hilti_acting.proofs.Counts.{fewer_then}

pub takes_result : (parts : Parts) (target : Option Variable) (value : Option Value) (head : Head)
    (p : Position) (s mid s' : Frames) (m m' : Memory) (a : Kept) → head ≡ heads.Function p
    → Leaves s head mid → s' ≡ with_slots mid (slots_taking target value mid.slots)
    → m'.globals.items ≡ globals_taking target value m.globals.items
    → Fewer m.heap a → Fewer a m'.heap → FitsWith m'.heap s' m'.globals.items None
    → Resumes parts (endings.Returned target value) s m p s' m'
unfolding resume
takes_result parts target value head p s mid s' m m' a is left stack globals x y fits = record {
  caller = frame (heads.Function p) mid.slots;
  below =
      left.caller
      ∙ ap (λ h. mid.below ++ frame h mid.slots ∷ []) is
      ∙ ap (λ (f : Frames). f.below ++ frame (heads.Function p) mid.slots ∷ []) (sym stack);
  leads = λ number ran store.
      ap (λ (f : Frames). On (at p f.slots)
      (thread number ran (globals_taking target value m.globals.items) store)) (sym stack)
      ∙ ap (λ gs. On (at p s'.slots) (thread number ran gs store)) (sym globals);
  fewer = fewer_then m.heap a m'.heap x y;
  fits = fits;
  none_made = ap (λ (f : Frames). f.made) stack ∙ left.made;
}
