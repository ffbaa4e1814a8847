-- What is asked of callers, by their types.
use Rattle.std.proofs.Common.{◌≡◌, List, [], ◌∷◌, ◌++◌, refl, sym, ap, ◌∙◌, subst, length}
use Rattle.std.proofs.Common.{Option, Some, None, IfSome, slice_get}
use Rattle.std.specs.List.{All, AllByRecursion}
use Rattle.std.specs.Option.{option_map, option_and_then, is_some}
use Rattle.std.proofs.lemmas.List.Elements.{All-from_recursion}
use Rattle.std.proofs.lemmas.Slice.Zip.{AllZip-long}
use Rattle.hilti_types.specs.declared.value_type.ValueType.{ValueType}
use Rattle.hilti_parts.specs.declared.parts.Function.{Function}
use Rattle.hilti_parts.specs.declared.parts.Parts.{Parts}
use Rattle.hilti_parts.specs.declared.parts.Variable.{Variable}
use Rattle.hilti_typing.specs.Programs.{context}
use Rattle.hilti_values.specs.declared.value.Value.{Value}
use Rattle.hilti_stack.specs.declared.head.Head.{Head}
use Rattle.hilti_stack.specs.declared.head.Head.TheVariants as heads
use Rattle.hilti_stack.specs.declared.head.Position.{Position}
use Rattle.hilti_stack.specs.Frames.{Frame, Frames, frame}
use Rattle.hilti_effects.specs.State.{State}
use Rattle.hilti_effects.specs.Asks.{IsThere}
use Rattle.hilti_effects.specs.declared.ending.Ending.TheVariants as endings
use Rattle.hilti_shapes.specs.Needs.{Kinds, Has}
use Rattle.hilti_shapes.specs.TypedRows.{Receives}
use Rattle.hilti_shapes.specs.Places.{IsAt, IsHeadAt, IsFrame, TakesResult, result_type}
use Rattle.hilti_shapes.specs.Keeping.{Ends}
use Rattle.hilti_shapes.proofs.Chains.{all_last, chain_last}
use Rattle.hilti_shapes.proofs.Growing.{all_meet}
use Rattle.hilti_shapes.proofs.Places.{target_there}
use Rattle.hilti_acting.specs.Returns.{CallerTakes, IsTaker}
use Rattle.hilti_acting.specs.Unwinding.{IsRaiser, IsRaiserFrame}
use Rattle.hilti_machine.specs.Steps.{IsFunctionHead, AreFunctions}

module _ (parts : Parts) (kinds : Kinds) where
  -- a typed frame is a function
  pub head_is : (h : Head) (slots : List Value) → IsHeadAt parts h slots kinds
      → (p : Position) × (h ≡ heads.Function p)
  head_is (heads.Function p) slots a = (p, refl)
  head_is (heads.Hook hook next) slots a = absurd a
  head_is heads.Advance slots a = absurd a

  function_head : (h : Head) (slots : List Value) → IsHeadAt parts h slots kinds
      → IsFunctionHead h
  function_head (heads.Function p) slots a = tt
  function_head (heads.Hook hook next) slots a = absurd a
  function_head heads.Advance slots a = absurd a

  pub are_functions : (ws : List Frame) → AllByRecursion (IsFrame parts kinds) ws
      → AreFunctions ws
  are_functions ws h =
      all_meet (IsFrame parts kinds) (λ (f : Frame). IsFunctionHead f.head)
      (λ (w : Frame). function_head w.head w.slots) ws h

  -- which may raise
  raiser : (h : Head) (slots : List Value) → IsHeadAt parts h slots kinds → IsRaiser parts h slots
  raiser (heads.Function p) slots a = record {
    block =
        ap is_some (ap (option_and_then (λ (f : Function). slice_get f.blocks p.block)) a.in_parts
        ∙ a.in_function);
    slots_are =
        ap (option_map (λ (f : Function). length f.slots)) a.in_parts
        ∙ ap (λ n. Some n) (AllZip-long (Has parts.types kinds) slots a.function.slots a.slots_are);
  }
  raiser (heads.Hook hook next) slots a = absurd a
  raiser heads.Advance slots a = absurd a

  pub raisers : (ws : List Frame) → AllByRecursion (IsFrame parts kinds) ws
      → All (IsRaiserFrame parts) ws
  raisers ws h =
      All-from_recursion (IsRaiserFrame parts) ws
      (all_meet (IsFrame parts kinds) (IsRaiserFrame parts)
      (λ (w : Frame). raiser w.head w.slots) ws h)

-- the nearest caller has the variable that takes a result
module _ (parts : Parts) (kinds : Kinds) (p : Position) (target : Option Variable)
    (value : Option Value) (st : State) where
  module _ (ws : List Frame) (q : Position) (slots : List Value)
      (ends : Ends parts kinds p (ws ++ frame (heads.Function q) slots ∷ [])
      (endings.Returned target value) st) where
    caller_at : IsAt parts q slots kinds
    caller_at =
        all_last (IsFrame parts kinds) ws (frame (heads.Function q) slots) ends.below_are

    receives : Receives (context parts q.function.n caller_at.function) target (result_type parts p)
    receives =
        subst
        (λ t. Receives (context parts q.function.n caller_at.function) t (result_type parts p))
        (sym ends.ending_is.0)
        (subst (λ o. IfSome o (TakesResult parts q p)) caller_at.in_parts
        (chain_last parts ws slots q p ends.chain))

    there : (t : Option Variable)
        → Receives (context parts q.function.n caller_at.function) t (result_type parts p)
        → IfSome t (IsThere slots st.globals)
    there None r = tt
    there (Some v) r = of_type (result_type parts p) r
      where
        of_type : (result : Option ValueType)
            → Receives (context parts q.function.n caller_at.function) (Some v) result
            → IsThere slots st.globals v
        of_type (Some t) i =
            target_there (context parts q.function.n caller_at.function) kinds slots st.globals
            caller_at.slots_are ends.state.globals_are v t i
        of_type None i = absurd i

    pub taker : IfSome target (IsThere slots st.globals)
    taker = there target receives

  by_head : (ws : List Frame) (h : Head) (slots : List Value)
      → Ends parts kinds p (ws ++ frame h slots ∷ []) (endings.Returned target value) st
      → IsTaker st.globals target h slots
  by_head ws (heads.Function q) slots ends = taker ws q slots ends
  by_head ws (heads.Hook hook next) slots ends =
      absurd (all_last (IsFrame parts kinds) ws (frame (heads.Hook hook next) slots) ends.below_are)
  by_head ws heads.Advance slots ends =
      absurd (all_last (IsFrame parts kinds) ws (frame heads.Advance slots) ends.below_are)

  pub caller_takes : (s : Frames)
      → Ends parts kinds p s.below (endings.Returned target value) st
      → CallerTakes st.globals target s
  caller_takes s ends ws w below =
      by_head ws w.head w.slots
      (subst (λ all. Ends parts kinds p all (endings.Returned target value) st) below ends)
