-- Calls that keep their types, step by step: what is so after an action, and back in a caller.
use Rattle.std.specs.Prelude.{◌≡◌, ℕ, ◌+◌, ◌≤◌, List, [], ◌∷◌, ◌++◌, take, slice_get, Option, Some}
use Rattle.std.specs.List.{AllByRecursion}
use Rattle.hilti_base.specs.declared.names.FnId.{FnId}
use Rattle.hilti_parts.specs.declared.parts.Function.{Function}
use Rattle.hilti_parts.specs.declared.parts.Parts.{Parts}
use Rattle.hilti_parts.specs.declared.parts.Variable.{Variable}
use Rattle.hilti_calls.specs.Calls.{Action.Go, Action.Call, Action.Leave, Back.On, Back.Out}
use Rattle.hilti_values.specs.declared.value.Value.{Value}
use Rattle.hilti_stack.specs.declared.head.Head.TheVariants as heads
use Rattle.hilti_stack.specs.declared.head.Position.{Position}
use Rattle.hilti_stack.specs.Frames.{Frame, Frames, frame}
use Rattle.hilti_heap.specs.Held.{all_held}
use Rattle.hilti_heap.specs.Kept.{Kept}
use Rattle.hilti_heap.specs.Stands.{StandsFor, Fits}
use Rattle.hilti_heap.specs.Stores.{Store}
use Rattle.hilti_effects.specs.State.{State, Does, GoesBack}
use Rattle.hilti_effects.specs.declared.ending.Ending.{Ending}
use Rattle.hilti_effects.specs.Acting.{act, resume, entry}
use Rattle.hilti_effects.specs.Asks.{Ready}
use Rattle.hilti_effects.specs.Effect.{fresh}
use Rattle.hilti_shapes.specs.Needs.{Kinds, Have, Grows, no_kinds}
use Rattle.hilti_shapes.specs.Places.{IsFrame, Chain, IsState, IsConfig}
use Rattle.hilti_shapes.specs.Places.{IsTypedEnding}

-- a frame and a thread are a call in progress above these frames, by types that grew
pub record GoesOn (parts : Parts) (kinds : Kinds) (below : List Frame) (top : Frame) (st : State)
    : Type 0 where
  pub grown : Kinds
  pub grows : Grows kinds grown
  pub position : Position
  pub stands : top.head ≡ heads.Function position
  pub config : IsConfig parts position (record { below = below; slots = top.slots; made = [] })
      st.globals grown st.store

-- the top ended, above these frames
pub record Ends (parts : Parts) (kinds : Kinds) (p : Position) (below : List Frame)
    (ending : Ending) (st : State) : Type 0 where
  pub ending_is : IsTypedEnding parts kinds p ending
  pub below_are : AllByRecursion (IsFrame parts kinds) below
  pub chain : Chain parts below p
  pub state : IsState parts kinds st

-- what an action leaves is typed: where it goes on, the same frames wait; where it calls, the
-- caller waits above them, for one callee
abbrev pub Keeps : Parts → Kinds → Position → List Frame → Does → Type 0
Keeps parts kinds p below (Go items top st) = GoesOn parts kinds below top st
Keeps parts kinds p below (Call first more caller st) =
    (more ≡ []) × GoesOn parts kinds (below ++ caller ∷ []) first st
Keeps parts kinds p below (Leave ending st) = Ends parts kinds p below ending st

-- and so is what a caller does with the end of its callee
abbrev pub KeepsBack : Parts → Kinds → Position → List Frame → GoesBack → Type 0
KeepsBack parts kinds p below (On top st) = GoesOn parts kinds below top st
KeepsBack parts kinds p below (Out ending st) = Ends parts kinds p below ending st

-- others hold what slots and globals hold
abbrev pub HoldsAll : List Value → List Value → (ℕ → ℕ) → Type 0
HoldsAll slots globals others =
    (serial : ℕ) → all_held serial slots + all_held serial globals ≤ others serial

-- The next instruction of a call in progress finds what its row asks, over each heap that stands
-- for the store and whose counts fit what frames and globals hold.
abbrev pub FindWhatRowsAsk : Parts → Type 0
FindWhatRowsAsk parts =
    (p : Position) (frames : Frames) (globals : List Value) (kinds : Kinds) (store : Store)
    → IsConfig parts p frames globals kinds store
    → (heap : Kept) (others : ℕ → ℕ) → StandsFor heap store → Fits heap others
    → HoldsAll frames.slots globals others
    → Ready parts p frames.slots globals heap

-- What a call in progress does next leaves it typed.
abbrev pub ActsKeepTypes : Parts → Type 0
ActsKeepTypes parts =
    (p : Position) (frames : Frames) (st : State) (kinds : Kinds)
    → IsConfig parts p frames st.globals kinds st.store
    → Keeps parts kinds p frames.below (act parts (frame (heads.Function p) frames.slots) st)

-- The nearest caller takes the end of its callee, and is typed.
abbrev pub ReturnsKeepTypes : Parts → Type 0
ReturnsKeepTypes parts =
    (callee p : Position) (slots : List Value) (below : List Frame) (ending : Ending) (st : State)
    (kinds : Kinds)
    → Ends parts kinds callee (below ++ frame (heads.Function p) slots ∷ []) ending st
    → KeepsBack parts kinds p below (resume parts (frame (heads.Function p) slots) ending st)

-- a frame is typed, and with any typed thread it is a call in progress
pub record Begins (parts : Parts) (kinds : Kinds) (top : Frame) : Type 0 where
  pub frame_is : IsFrame parts kinds top
  pub alone : (st : State) → IsState parts kinds st → GoesOn parts kinds [] top st

-- A function that is entered with arguments of the types of its parameters, and with what its other
-- variables hold at first, begins a call.
abbrev pub EntriesAreTyped : Parts → Type 0
EntriesAreTyped parts =
    (f : FnId) (function : Function) (target : Option Variable) (arguments : List Value)
    (kinds : Kinds)
    → slice_get parts.functions f.n ≡ Some function
    → Have parts.types kinds arguments (take function.params function.slots)
    → Begins parts kinds (entry parts f arguments target)

-- A thread that ran nothing is typed.
abbrev pub FreshThreadsAreTyped : Parts → Type 0
FreshThreadsAreTyped parts = (number : ℕ) → IsState parts no_kinds (fresh parts number)
