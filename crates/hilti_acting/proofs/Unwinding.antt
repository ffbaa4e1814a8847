-- Frames that end with an exception, and the frame that catches it.
use Rattle.std.proofs.Common.{◌≡◌, ℕ, ◌<◌, length, List, [], ◌∷◌, ◌++◌, refl, sym, ap, subst, ◌∙◌}
use Rattle.std.proofs.Common.{Option, Some, None, arith, IsSomeAnd}
use Rattle.std.specs.Prelude.{slice_get, slice_set}
use Rattle.std.specs.Option.{option_map}
use Rattle.std.proofs.lemmas.Option.{same_Some, slice_get_within}
use Rattle.std.specs.List.{All, AllByRecursion}
use Rattle.std.proofs.lemmas.List.{append_assoc, length-append}
use Rattle.std.proofs.lemmas.List.Elements.{All-from_recursion}
use Rattle.hilti_calls.specs.Calls.{Back.On}
use Rattle.hilti_effects.specs.Acting.{at, resume}
use Rattle.hilti_effects.specs.Raising.{to_block, to_handler}
use Rattle.hilti_effects.specs.State.{State}
use Rattle.hilti_effects.specs.declared.ending.Ending.TheVariants as endings
use Rattle.hilti_heap.specs.Held.{all_held}
use Rattle.hilti_heap.specs.Stands.{Fits}
use Rattle.hilti_parts.specs.declared.parts.Block.{Block}
use Rattle.hilti_parts.specs.declared.parts.Function.{Function}
use Rattle.hilti_parts.specs.declared.parts.Handler.{Handler}
use Rattle.hilti_parts.specs.declared.parts.Parts.{Parts}
use Rattle.hilti_raise.specs.Handlers.{block_at, IsCatching, IsHandlerOf}
use Rattle.hilti_stack.specs.declared.head.Head.{Head}
use Rattle.hilti_stack.specs.declared.head.Head.TheVariants as heads
use Rattle.hilti_stack.specs.declared.head.Position.{Position}
use Rattle.hilti_stack.specs.Frames.{Frame, Frames, frame, with_slots, Leaves}
use Rattle.hilti_types.specs.declared.value_type.ValueType.TheVariants as types
use Rattle.hilti_typing.specs.Exceptions.{ExceptionTree}
use Rattle.hilti_values.specs.declared.value.Value.{Value}
use Rattle.hilti_values.specs.declared.value.Value.TheVariants as values
use Rattle.hilti_acting.specs.Acts.{thread, MayRaise}
use Rattle.hilti_acting.specs.Owned.{FitsWith, Fewer}
use Rattle.hilti_acting.specs.Unwinding.{IsRaiser, IsRaiserFrame, IsFunction, NearestIsFunction}
use Rattle.hilti_acting.specs.Unwinding.{NotCaught, Unwinds, Uncaught}
use Rattle.hilti_acting.specs.declared.memory.Memory.{Memory}
use Rattle.hilti_acting.proofs.Counts.{fewer_then}
use Rattle.hilti_acting.proofs.Raises.{raised_is}

-- the frames so far ended, and none of them caught it
pub record Ended (parts : Parts) (e : ℕ) (text : List ℕ) (s : Frames) (m : Memory) (s' : Frames)
    (m' : Memory) : Type 0 where
  pub ended : List Frame
  pub below : s.below ≡ s'.below ++ ended
  pub not_caught : AllByRecursion (NotCaught parts e text) ended
  pub callers : AllByRecursion (IsRaiserFrame parts) s'.below
  pub globals : m'.globals.items ≡ m.globals.items
  pub fewer : Fewer m.heap m'.heap
  pub fits : FitsWith m'.heap s' m'.globals.items None
  pub none_made : s'.made ≡ []

-- what is so of all is so of the last, and of those before it
module _ {A : Type 0} (P : A → Type 0) where
  split_last : (ws : List A) (w : A) → AllByRecursion P (ws ++ w ∷ []) → AllByRecursion P ws × P w
  split_last [] w (is, others) = (tt, is)
  split_last (v ∷ ws) w (is, others) =
      let more = split_last ws w others in ((is, more.0), more.1)

is_function : (parts : Parts) (head : Head) (slots : List Value) → IsRaiser parts head slots
    → IsFunction head
is_function parts (heads.Function p) slots may = tt
is_function parts (heads.Hook hook next) slots may = absurd may
is_function parts heads.Advance slots may = absurd may

pub nearest : (parts : Parts) (s : Frames) → AllByRecursion (IsRaiserFrame parts) s.below
    → NearestIsFunction s
nearest parts s all ws w is =
    is_function parts w.head w.slots
    (split_last (IsRaiserFrame parts) ws w (subst (AllByRecursion (IsRaiserFrame parts)) is all)).1

-- the caller that is the top now
pub caller_may : (parts : Parts) (s s' : Frames) (p : Position)
    → AllByRecursion (IsRaiserFrame parts) s.below → Leaves s (heads.Function p) s'
    → MayRaise parts p s'.slots
caller_may parts s s' p all left =
    (split_last (IsRaiserFrame parts) s'.below (frame (heads.Function p) s'.slots)
    (subst (AllByRecursion (IsRaiserFrame parts)) left.caller all)).1

-- the slot of a handler is there
module _ (parts : Parts) (p : Position) (slots : List Value) (h : Handler)
    (typed : IsHandlerOf parts p.function.n h) where
  in_function : (o : Option Function) → slice_get parts.functions p.function.n ≡ o
      → option_map (λ (f : Function). length f.slots) o ≡ Some (length slots)
      → h.slot < length slots
  in_function None is e = absurd cc
  in_function (Some f) is e =
      let t = typed f is in
      let w = slice_get_within f.slots h.slot types.Text t.text in
      let l = same_Some (length f.slots) (length slots) e in omega arith

pub slot_there : (parts : Parts) (p : Position) (slots : List Value) (h : Handler)
    → MayRaise parts p slots → IsHandlerOf parts p.function.n h → h.slot < length slots
slot_there parts p slots h may typed =
    in_function parts p slots h typed (slice_get parts.functions p.function.n) refl may.slots_are

pub fewer_below : (s s' : Frames) (head : Head) → Leaves s head s'
    → length s'.below < length s.below
fewer_below s s' head left =
    let l = ap length left.caller in
    let m = length-append s'.below (frame head s'.slots ∷ []) in omega arith

module _ (parts : Parts) (tree : ExceptionTree parts.exceptions) (e : ℕ) (text : List ℕ)
    (s : Frames) (m : Memory) (one : Frames) (a : Memory) (so_far : Ended parts e text s m one a)
    (p : Position) (two : Frames) (left : Leaves one (heads.Function p) two)
    (found : Option Handler)
    (is : IsSomeAnd (block_at parts p.function.n p.block)
    (λ (b : Block). IsCatching parts.exceptions e b.handlers found)) where
  resumes : (st : State)
      → resume parts (frame (heads.Function p) two.slots) (endings.Raised e text) st
      ≡ to_handler p two.slots st e text found
  unfolding resume
  resumes st = raised_is parts tree p two a e text found is st

  pub passes_on : (b : Memory) → found ≡ None → b.globals.items ≡ a.globals.items
      → Fewer a.heap b.heap → FitsWith b.heap two b.globals.items None
      → Ended parts e text s m two b
  passes_on b none same fewer fits = record {
    ended = frame (heads.Function p) two.slots ∷ so_far.ended;
    below =
        so_far.below
        ∙ ap (λ below. below ++ so_far.ended) left.caller
        ∙ append_assoc two.below (frame (heads.Function p) two.slots ∷ []) so_far.ended;
    not_caught =
        (λ st. resumes st ∙ ap (to_handler p two.slots st e text) none, so_far.not_caught);
    callers = (split_last (IsRaiserFrame parts) two.below (frame (heads.Function p) two.slots)
        (subst (AllByRecursion (IsRaiserFrame parts)) left.caller so_far.callers)).0;
    globals = same ∙ so_far.globals;
    fewer = fewer_then m.heap a.heap b.heap so_far.fewer fewer;
    fits = fits;
    none_made = left.made;
  }

  pub takes : (h : Handler) (b c : Memory) (three : Frames) (p' : Position) → found ≡ Some h
      → p' ≡ to_block p h.block
      → three ≡ with_slots two (slice_set two.slots h.slot (values.Text text))
      → b.globals.items ≡ a.globals.items → c.globals.items ≡ b.globals.items
      → Fewer a.heap b.heap → Fewer b.heap c.heap → FitsWith c.heap three c.globals.items None
      → Unwinds parts e text s m p' three c
  takes h b c three p' here place stack one_same two_same fewer more fits = record {
    caller = frame (heads.Function p) two.slots;
    ended = so_far.ended;
    below =
        so_far.below
        ∙ ap (λ below. below ++ so_far.ended) left.caller
        ∙ append_assoc two.below (frame (heads.Function p) two.slots ∷ []) so_far.ended
        ∙ ap (λ (f : Frames). f.below ++ frame (heads.Function p) two.slots ∷ so_far.ended)
        (sym stack);
    not_caught = All-from_recursion (NotCaught parts e text) so_far.ended so_far.not_caught;
    leads = λ number ran store.
        resumes (thread number ran m.globals.items store)
        ∙ ap (to_handler p two.slots (thread number ran m.globals.items store) e text) here
        ∙ ap (λ (f : Frames). On (at (to_block p h.block) f.slots)
        (thread number ran m.globals.items store)) (sym stack)
        ∙ ap (λ q. On (at q three.slots) (thread number ran m.globals.items store)) (sym place)
        ∙ ap (λ gs. On (at p' three.slots) (thread number ran gs store))
        (sym (two_same ∙ one_same ∙ so_far.globals));
    fewer = fewer_then m.heap b.heap c.heap
        (fewer_then m.heap a.heap b.heap so_far.fewer fewer) more;
    fits = fits;
    none_made = ap (λ (f : Frames). f.made) stack ∙ left.made;
  }

-- no caller is left
pub none_catches : (parts : Parts) (e : ℕ) (text : List ℕ) (s : Frames) (m : Memory)
    (one : Frames) (a b : Memory) → Ended parts e text s m one a → one.below ≡ []
    → b.globals.items ≡ a.globals.items → Fewer a.heap b.heap
    → Fits b.heap (λ s. all_held s b.globals.items) → Uncaught parts e text s m b
none_catches parts e text s m one a b so_far none same fewer fits = record {
  not_caught = subst (All (NotCaught parts e text))
      (sym (so_far.below ∙ ap (λ below. below ++ so_far.ended) none))
      (All-from_recursion (NotCaught parts e text) so_far.ended so_far.not_caught);
  globals = same ∙ so_far.globals;
  fewer = fewer_then m.heap a.heap b.heap so_far.fewer fewer;
  fits = fits;
}
