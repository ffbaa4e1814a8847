-- What follows where the top ended.
use Rattle.std.specs.Prelude.{◌≡◌, ℕ, ◌+◌, Bool, List, [], ◌∷◌, ◌++◌, Option, None, IfSome}
use Rattle.hilti_calls.specs.Calls.{Back.On}
use Rattle.hilti_effects.specs.Acting.{at, resume}
use Rattle.hilti_effects.specs.Asks.{IsThere}
use Rattle.hilti_effects.specs.declared.ending.Ending.{Ending}
use Rattle.hilti_heap.specs.Held.{part, held, all_held}
use Rattle.hilti_heap.specs.Stands.{Fits}
use Rattle.hilti_heap.specs.Stores.{Store}
use Rattle.hilti_parts.specs.declared.parts.Parts.{Parts}
use Rattle.hilti_parts.specs.declared.parts.Variable.{Variable}
use Rattle.hilti_stack.specs.declared.head.Head.{Head}
use Rattle.hilti_stack.specs.declared.head.Head.TheVariants as heads
use Rattle.hilti_stack.specs.declared.head.Position.{Position}
use Rattle.hilti_stack.specs.Frames.{Frame, Frames}
use Rattle.hilti_values.specs.declared.value.Value.{Value}
use Rattle.hilti_acting.specs.Acts.{thread}
use Rattle.hilti_acting.specs.Owned.{FitsWith, Fewer}
use Rattle.hilti_acting.specs.declared.memory.Memory.{Memory}

-- a caller that is a function and has the variable that takes the result
abbrev pub IsTaker : List Value → Option Variable → Head → List Value → Type 0
IsTaker globals target (heads.Function p) slots = IfSome target (IsThere slots globals)
IsTaker globals target head slots = ⊥

-- the nearest caller, if one waits, is one
abbrev pub CallerTakes : List Value → Option Variable → Frames → Type 0
CallerTakes globals target s =
    (ws : List Frame) (w : Frame) → s.below ≡ ws ++ w ∷ [] → IsTaker globals target w.head w.slots

-- the nearest caller goes on, as it resumes from each store: the heap stands for that store still
pub record Resumes (parts : Parts) (e : Ending) (s : Frames) (m : Memory)
    (p' : Position) (s' : Frames) (m' : Memory) : Type 0 where
  pub caller : Frame
  pub below : s.below ≡ s'.below ++ caller ∷ []
  pub leads : (number : ℕ) (ran : Bool) (store : Store) →
      resume parts caller e (thread number ran m.globals.items store)
      ≡ On (at p' s'.slots) (thread number ran m'.globals.items store)
  pub fewer : Fewer m.heap m'.heap
  pub fits : FitsWith m'.heap s' m'.globals.items None
  pub none_made : s'.made ≡ []

-- no caller waited: the globals alone hold objects, and the value on its way
pub record IsOver (s : Frames) (way : Option Value) (m m' : Memory) : Type 0 where
  pub bottom : s.below ≡ []
  pub globals : m'.globals.items ≡ m.globals.items
  pub fewer : Fewer m.heap m'.heap
  pub fits : Fits m'.heap (λ s. all_held s m'.globals.items + part (held s) way)
