-- Frames that are let go, one after another.
use Rattle.std.proofs.Common.{◌≡◌, ◌<◌, List, [], ◌∷◌, ◌++◌, sym, ap, ◌∙◌, subst, arith}
use Rattle.std.proofs.Common.{length, None, false}
use Rattle.std.proofs.lemmas.List.{length-append}
use Rattle.hilti_parts.specs.declared.parts.Parts.{Parts}
use Rattle.hilti_stack.specs.declared.head.Head.{Head}
use Rattle.hilti_stack.specs.declared.head.Head.TheVariants as heads
use Rattle.hilti_stack.specs.Frames.{Frame, Frames, frame}
use Rattle.hilti_values.specs.declared.value.Value.{Value}
use Rattle.hilti_shapes.proofs.Chains.{all_front, all_last}
use Rattle.hilti_acting.specs.Owned.{FitsWith, Fewer}
use Rattle.hilti_calls.specs.Calls.{Back.On, Back.Out}
use Rattle.hilti_stack.specs.declared.head.Position.{Position}
use Rattle.hilti_heap.specs.Stores.{Store}
use Rattle.hilti_effects.specs.State.{GoesBack}
use Rattle.hilti_effects.specs.Acting.{at, resume}
use Rattle.hilti_effects.specs.declared.ending.Ending.TheVariants as endings
use Rattle.hilti_acting.specs.Acts.{thread}
use Rattle.hilti_acting.specs.Returns.{CallerTakes, IsTaker, Resumes}
use Rattle.hilti_acting.specs.declared.memory.Memory.{Memory}
use Rattle.hilti_acting.proofs.Counts.{fewer_then}
use Rattle.hilti_machine.specs.Steps.{AreFunctions, IsFunctionHead}

-- frames are left, and globals are as at first
pub record Remain (m : Memory) (s : Frames) (m' : Memory) : Type 0 where
  pub fits : FitsWith m'.heap s m'.globals.items None
  pub none_made : s.made ≡ []
  pub functions : AreFunctions s.below
  pub globals : m'.globals.items ≡ m.globals.items
  pub fewer : Fewer m.heap m'.heap

takes_nothing : (globals : List Value) (h : Head) (slots : List Value) → IsFunctionHead h
    → IsTaker globals None h slots
takes_nothing globals (heads.Function p) slots f = tt
takes_nothing globals (heads.Hook hook next) slots f = absurd f
takes_nothing globals heads.Advance slots f = absurd f

pub callers_take_nothing : (globals : List Value) (s : Frames) → AreFunctions s.below
    → CallerTakes globals None s
callers_take_nothing globals s functions ws w below =
    takes_nothing globals w.head w.slots
    (all_last (λ (f : Frame). IsFunctionHead f.head) ws w (subst AreFunctions below functions))

-- a program of nothing
none : Parts
none = record { types = []; globals = []; functions = []; exceptions = []; hooks = [] }

abbrev globals_in : GoesBack → List Value
globals_in (On f st) = st.globals
globals_in (Out e st) = st.globals

-- a caller that takes nothing leaves the globals
same_globals : (h : Head) (slots globals globals' : List Value) (f : Frame) (st : Store)
    → IsFunctionHead h
    → resume none (frame h slots) (endings.Returned None None) (thread 0 false globals st)
    ≡ On f (thread 0 false globals' st) → globals' ≡ globals
unfolding resume
same_globals (heads.Function p) slots globals globals' f st function e = sym (ap globals_in e)
same_globals (heads.Hook hook next) slots globals globals' f st function e = absurd function
same_globals heads.Advance slots globals globals' f st function e = absurd function

module _ (p : Position) (m before after : Memory) (s s' : Frames)
    (remain : Remain m s before)
    (resumes : (parts : Parts)
    → Resumes parts (endings.Returned None None) s before p s' after) where
  abbrev r : Resumes none (endings.Returned None None) s before p s' after
  r = resumes none

  functions : AreFunctions (s'.below ++ r.caller ∷ [])
  functions = subst AreFunctions r.below remain.functions

  pub one_less : length s'.below < length s.below
  one_less =
      let all = ap (λ (ws : List Frame). length ws) r.below in
      let more = length-append s'.below (r.caller ∷ []) in
      omega arith

  pub remains : Remain m s' after
  remains = record {
    fits = r.fits;
    none_made = r.none_made;
    functions = all_front (λ (f : Frame). IsFunctionHead f.head) s'.below r.caller functions;
    globals =
        same_globals r.caller.head r.caller.slots before.globals.items after.globals.items
        (at p s'.slots) (record { next = 0; object = λ s. None })
        (all_last (λ (f : Frame). IsFunctionHead f.head) s'.below r.caller functions)
        (r.leads 0 false (record { next = 0; object = λ s. None }))
        ∙ remain.globals;
    fewer = fewer_then m.heap before.heap after.heap remain.fewer r.fewer;
  }
