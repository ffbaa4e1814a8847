-- What follows where the top ended with an exception: the first frame with a handler takes it.
use Rattle.std.specs.Prelude.{◌≡◌, ℕ, Bool, List, [], ◌∷◌, ◌++◌, None}
use Rattle.std.specs.List.{All}
use Rattle.hilti_calls.specs.Calls.{Back.On, Back.Out}
use Rattle.hilti_effects.specs.Acting.{at, resume}
use Rattle.hilti_effects.specs.State.{State}
use Rattle.hilti_effects.specs.declared.ending.Ending.TheVariants as endings
use Rattle.hilti_heap.specs.Held.{all_held}
use Rattle.hilti_heap.specs.Stands.{Fits}
use Rattle.hilti_heap.specs.Stores.{Store}
use Rattle.hilti_parts.specs.declared.parts.Parts.{Parts}
use Rattle.hilti_stack.specs.declared.head.Head.{Head}
use Rattle.hilti_stack.specs.declared.head.Head.TheVariants as heads
use Rattle.hilti_stack.specs.declared.head.Position.{Position}
use Rattle.hilti_stack.specs.Frames.{Frame, Frames}
use Rattle.hilti_values.specs.declared.value.Value.{Value}
use Rattle.hilti_acting.specs.Acts.{thread, MayRaise}
use Rattle.hilti_acting.specs.Owned.{FitsWith, Fewer}
use Rattle.hilti_acting.specs.declared.memory.Memory.{Memory}

-- a function whose block is there, and that has its slots
abbrev pub IsRaiser : Parts → Head → List Value → Type 0
IsRaiser parts (heads.Function p) slots = MayRaise parts p slots
IsRaiser parts head slots = ⊥

abbrev pub IsRaiserFrame : Parts → Frame → Type 0
IsRaiserFrame parts f = IsRaiser parts f.head f.slots

-- the nearest caller, if one waits, is a function
abbrev pub IsFunction : Head → Type 0
IsFunction (heads.Function p) = Unit {0}
IsFunction head = ⊥

abbrev pub NearestIsFunction : Frames → Type 0
NearestIsFunction s =
    (ws : List Frame) (w : Frame) → s.below ≡ ws ++ w ∷ [] → IsFunction w.head

-- a frame that ends with the exception of its callee
abbrev pub NotCaught : Parts → ℕ → List ℕ → Frame → Type 0
NotCaught parts e text f = (st : State) →
    resume parts f (endings.Raised e text) st ≡ Out (endings.Raised e text) st

-- the nearest frame that catches it goes on, as it resumes from each store; those above it ended,
-- and the heap stands for that store still
pub record Unwinds (parts : Parts) (e : ℕ) (text : List ℕ) (s : Frames) (m : Memory)
    (p' : Position) (s' : Frames) (m' : Memory) : Type 0 where
  pub caller : Frame
  pub ended : List Frame
  pub below : s.below ≡ s'.below ++ caller ∷ ended
  pub not_caught : All (NotCaught parts e text) ended
  pub leads : (number : ℕ) (ran : Bool) (store : Store) →
      resume parts caller (endings.Raised e text) (thread number ran m.globals.items store)
      ≡ On (at p' s'.slots) (thread number ran m'.globals.items store)
  pub fewer : Fewer m.heap m'.heap
  pub fits : FitsWith m'.heap s' m'.globals.items None
  pub none_made : s'.made ≡ []

-- no frame catches it: the globals alone hold objects
pub record Uncaught (parts : Parts) (e : ℕ) (text : List ℕ) (s : Frames) (m m' : Memory) : Type 0
  where
    pub not_caught : All (NotCaught parts e text) s.below
    pub globals : m'.globals.items ≡ m.globals.items
    pub fewer : Fewer m.heap m'.heap
    pub fits : Fits m'.heap (λ s. all_held s m'.globals.items)
