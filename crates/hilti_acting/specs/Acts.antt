-- What was done, against what a frame does next by its meaning, from every store that the heap
-- stands for.
use Rattle.std.specs.Prelude.{◌≡◌, ℕ, ◌+◌, ◌^◌, ◌<◌, Bool, List, [], ◌∷◌, ◌++◌}
use Rattle.std.specs.Prelude.{Option, Some, None, IsSome}
use Rattle.std.specs.Prelude.{Result, Ok, Err}
use Rattle.hilti_calls.specs.Calls.{Action.Go, Action.Call, Action.Leave}
use Rattle.hilti_calls.specs.Parts.{Mark, Mark.Plain, Mark.Cut}
use Rattle.hilti_calls.specs.Stores.{Leads}
use Rattle.hilti_core.specs.declared.pieces.Item.{Item}
use Rattle.hilti_core.specs.declared.pieces.Item.TheVariants.{Line}
use Rattle.hilti_core.specs.declared.pieces.End.TheVariants as ends
use Rattle.hilti_effects.specs.Acting.{act, at, next}
use Rattle.hilti_effects.specs.Asks.{HasSlots}
use Rattle.hilti_effects.specs.State.{State, Close, Does}
use Rattle.hilti_effects.specs.declared.ending.Ending.{Ending}
use Rattle.hilti_effects.specs.declared.ending.Ending.TheVariants as endings
use Rattle.hilti_heap.specs.Kept.{Kept}
use Rattle.hilti_heap.specs.Stands.{StandsFor}
use Rattle.hilti_heap.specs.Stores.{Store, Answer, Answer.Done, Answer.Raised}
use Rattle.hilti_heap.specs.declared.fault.OpFault.{OpFault}
use Rattle.hilti_heap.specs.declared.fault.OpFault.TheVariants as faults
use Rattle.hilti_parts.specs.declared.parts.Parts.{Parts}
use Rattle.hilti_raise.specs.Handlers.{block_at}
use Rattle.hilti_scalar_ops.specs.declared.computing.Made.{Made}
use Rattle.hilti_scalar_ops.specs.declared.computing.Made.TheVariants as made
use Rattle.hilti_stack.specs.declared.head.Position.{Position}
use Rattle.hilti_stack.specs.Frames.{Frames}
use Rattle.hilti_values.specs.declared.value.Value.{Value}
use Rattle.hilti_acting.specs.Owned.{FitsWith}
use Rattle.hilti_acting.specs.declared.memory.Memory.{Memory}
use Rattle.hilti_acting.specs.declared.did.Did.{Did}
use Rattle.hilti_acting.specs.declared.did.Did.TheVariants as did

-- a thread with this number, that began a call before or not
abbrev pub thread : ℕ → Bool → List Value → Store → State
thread number ran globals store =
    record { number = number; globals = globals; store = store; ran = ran }

-- what a frame does next, whatever number the thread has and whether it ran
abbrev pub Going : Type 0
Going = ℕ → Bool → Store → Does

-- what is done of a state
abbrev pub of_state : (State → Does) → List Value → Going
of_state does globals number ran store = does (thread number ran globals store)

-- from each store that the old heap stood for, what is done leads to some store that the new heap
-- stands for
abbrev pub LeadsAll : Going → Kept → Going → Kept → Type 0
LeadsAll does old to new =
    (number : ℕ) (ran : Bool) → Leads StandsFor old (does number ran) new (to number ran)

-- what goes into the trace, where a frame goes on
abbrev pub marks : Did → Position → State → List (Mark Item Close)
marks (did.Said text) p st = Plain (Line text) ∷ []
marks did.Yielded p st =
    Cut (record { «end» = ends.Yielded; state = st; place = Some p }) ∷ []
marks _ p st = []

-- the frame went on, with these marks
pub record WentOn (does : Going) (s : Frames) (m : Memory)
    (done : Position → State → List (Mark Item Close))
    (p' : Position) (s' : Frames) (m' : Memory) : Type 0 where
  pub leads : LeadsAll does m.heap
      (of_state (λ st. Go (done p' st) (at p' s'.slots) st) m'.globals.items) m'.heap
  pub fits : FitsWith m'.heap s' m'.globals.items None
  pub below : s'.below ≡ s.below
  pub none_made : s'.made ≡ []

-- a callee is the top, and the frame waits behind its call
pub record Calls (does : Going) (p : Position) (s : Frames) (m : Memory)
    (p' : Position) (s' : Frames) (m' : Memory) : Type 0 where
  pub leads : LeadsAll does m.heap
      (of_state (λ st. Call (at p' s'.slots) [] (at (next p) s.slots) st) m'.globals.items) m'.heap
  pub fits : FitsWith m'.heap s' m'.globals.items None
  pub below : s'.below ≡ s.below ++ at (next p) s.slots ∷ []
  pub none_made : s'.made ≡ []

-- the value that an ending carries
abbrev pub carried : Ending → Option Value
carried (endings.Returned target value) = value
carried _ = None

-- the frame ends so; its slots are still there
pub record Leaves (does : Going) (p : Position) (s : Frames) (m : Memory) (e : Ending)
    (p' : Position) (s' : Frames) (m' : Memory) : Type 0 where
  pub leads : LeadsAll does m.heap (of_state (λ st. Leave e st) m'.globals.items) m'.heap
  pub fits : FitsWith m'.heap s' m'.globals.items (carried e)
  pub stack : s' ≡ s
  pub position : p' ≡ p
  pub globals : m'.globals.items ≡ m.globals.items

-- what was done is what the frame does
abbrev pub Acts : Going → Position → Frames → Memory → Did → Position → Frames → Memory → Type 0
Acts does p s m did.Called p' s' m' = Calls does p s m p' s' m'
Acts does p s m (did.Left e) p' s' m' = Leaves does p s m e p' s' m'
Acts does p s m d p' s' m' = WentOn does s m (marks d) p' s' m'

-- what a function does next, with these slots and globals
abbrev pub does_at : Parts → Position → List Value → List Value → Going
does_at parts p slots = of_state (act parts (at p slots))

-- what was computed, as an answer of an instruction
abbrev pub answer_of : Made → Store → Answer
answer_of (made.Gives value) st = Done (Some value) st
answer_of (made.Raises r) st = Raised r

-- where a value was computed
abbrev pub IfGives : Made → (Value → Type 0) → Type 0
IfGives (made.Gives value) so = so value
IfGives (made.Raises r) so = Unit {0}

-- where an answer's value is on its way, the counts are what is held with it
abbrev pub Fitted : Result (Option Value) OpFault → Kept → Frames → List Value → Type 0
Fitted (Ok value) h f globals = FitsWith h f globals value
Fitted (Err faults.NoMemory) h f globals = Unit {0}
Fitted (Err (faults.Raise r)) h f globals = FitsWith h f globals None

-- a function at an instruction, with nothing half made, over a heap whose counts fit
pub record Stands (p : Position) (s : Frames) (m : Memory) : Type 0 where
  pub room : p.at + 1 < 2 ^ 32
  pub none_made : s.made ≡ []
  pub fits : FitsWith m.heap s m.globals.items None

-- a function that may raise: its block is there, and it has the slots that it declares
pub record MayRaise (parts : Parts) (p : Position) (slots : List Value) : Type 0 where
  pub block : IsSome (block_at parts p.function.n p.block)
  pub slots_are : HasSlots parts p slots
