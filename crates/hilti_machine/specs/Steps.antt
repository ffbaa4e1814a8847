-- What a call in progress did so far, against all that it does by its meaning.
use Rattle.std.specs.Prelude.{◌≡◌, ℕ, ◌<◌, Bool, List, [], ◌∷◌, ◌++◌, map, length, Option, Some}
use Rattle.std.specs.Prelude.{None}
use Rattle.std.specs.Prelude.{IfSome}
use Rattle.std.specs.List.{AllByRecursion}
use Rattle.hilti_base.specs.declared.names.FnId.{FnId}
use Rattle.hilti_parts.specs.declared.parts.Parts.{Parts}
use Rattle.hilti_parts.specs.declared.parts.Variable.{Variable}
use Rattle.hilti_core.specs.declared.pieces.Item.{Item}
use Rattle.hilti_core.specs.declared.pieces.End.{End}
use Rattle.hilti_core.specs.declared.pieces.End.TheVariants.{Yielded, Returned}
use Rattle.hilti_core.specs.declared.pieces.Segment.{Segment}
use Rattle.hilti_calls.specs.Calls.{Outcome.Ended, emit}
use Rattle.hilti_calls.specs.Parts.{Mark, Mark.Plain, Mark.Cut, parts_of}
use Rattle.hilti_calls.specs.Stack.{resumes}
use Rattle.hilti_stack.specs.declared.head.Head.{Head}
use Rattle.hilti_stack.specs.declared.head.Head.TheVariants as heads
use Rattle.hilti_stack.specs.declared.head.Position.{Position}
use Rattle.hilti_stack.specs.Frames.{Frame}
use Rattle.hilti_values.specs.declared.value.Value.{Value}
use Rattle.hilti_openings.specs.declared.entries.Opened.{Opened}
use Rattle.hilti_heap.specs.Held.{all_held}
use Rattle.hilti_heap.specs.Stands.{StandsFor, Fits}
use Rattle.hilti_heap.specs.Stores.{Store}
use Rattle.hilti_effects.specs.State.{State, Close, Ends}
use Rattle.hilti_effects.specs.Acting.{language}
use Rattle.hilti_effects.specs.Effect.{pending, closing, state_of, segment_of}
use Rattle.hilti_effects.specs.declared.ending.Ending.{Ending}
use Rattle.hilti_effects.specs.declared.ending.Ending.TheVariants as endings
use Rattle.hilti_shapes.specs.Needs.{Kinds}
use Rattle.hilti_code.specs.Runnable.{IsTypedProgram}
use Rattle.hilti_shapes.specs.Places.{AreShared}
use Rattle.hilti_shapes.specs.Keeping.{Ends as EndsTyped}
use Rattle.hilti_acting.specs.Acts.{thread, carried}
use Rattle.hilti_acting.specs.Owned.{FitsWith, Fewer}
use Rattle.hilti_acting.specs.declared.memory.Memory.{Memory}
use Rattle.hilti_machine.specs.declared.calling.Calling.{Calling}
use Rattle.hilti_machine.specs.declared.step.Step.{Step}
use Rattle.hilti_machine.specs.declared.step.Step.TheVariants as steps
use Rattle.hilti_machine.specs.Threads.{waiting_in, still, suspension, IsTypedCall, IsTypedOpening}

-- what a trace has so far, in the state then
abbrev pub Marks : Type 0
Marks = State → List (Mark Item Close)

-- these items
abbrev pub said : List Item → Marks
said items st = map Plain items

-- these items, and then a suspension at this instruction
abbrev pub cut : List Item → Position → Marks
cut items p st = map Plain items ++ Cut (suspension p st) ∷ []

-- Over some store that the heap stands for, all that a call does is this, and then what it still
-- does.
pub record IsAmid (parts : Parts) (all : Ends) (done : Marks) (c : Calling) (m : Memory)
    (number : ℕ) (ran : Bool) : Type 0 where
  pub store : Store
  pub stands : StandsFor m.heap store
  pub so : all ≡ emit (done (thread number ran m.globals.items store))
      (still parts c (thread number ran m.globals.items store))
  pub fits : FitsWith m.heap c.stack m.globals.items None
  pub typed : IsTypedCall parts c m.globals.items store

-- a call in progress, whatever it does
pub record IsUnderWay (parts : Parts) (items : List Item) (c : Calling) (m : Memory) : Type 0
  where
    pub all : Ends
    pub number : ℕ
    pub ran : Bool
    pub amid : IsAmid parts all (said items) c m number ran

-- no body of a hook
abbrev pub IsNotStopped : Ending → Type 0
IsNotStopped endings.Stopped = ⊥
IsNotStopped _ = Unit {0}

-- All that a call does is these items, and then what its callers do with this ending of its top.
pub record HasLeft (parts : Parts) (all : Ends) (items : List Item) (e : Ending) (c : Calling)
    (m : Memory) (number : ℕ) (ran : Bool) : Type 0 where
  pub program : IsTypedProgram parts
  pub store : Store
  pub stands : StandsFor m.heap store
  pub so : all ≡ emit (map Plain items) (resumes (language parts) (pending parts) (waiting_in c)
      (Ended e (thread number ran m.globals.items store) c.fuel []))
  pub fits : FitsWith m.heap c.stack m.globals.items (carried e)
  pub kinds : Kinds
  pub ends : EndsTyped parts kinds c.top c.stack.below e (thread number ran m.globals.items store)
  pub none_made : c.stack.made ≡ []
  pub behind : IfSome c.behind (IsTypedOpening parts)
  pub function : c.function.n < length parts.functions
  pub not_stopped : IsNotStopped e

-- the top of some call ended so
pub record TopHasLeft (parts : Parts) (items : List Item) (e : Ending) (c : Calling) (m : Memory)
    : Type 0 where
  pub all : Ends
  pub number : ℕ
  pub ran : Bool
  pub left : HasLeft parts all items e c m number ran

-- All that a call of this function does closes so, behind these items, and leaves a thread with
-- these globals and objects.
pub record IsDone (parts : Parts) (f : FnId) (all : Ends) (items : List Item) (e : End)
    (m : Memory) (number : ℕ) (ran : Bool) : Type 0 where
  pub store : Store
  pub stands : StandsFor m.heap store
  pub last : map segment_of (parts_of (closing parts f) all)
      ≡ record { items = items; «end» = e } ∷ []
  pub leaves : state_of all ≡ thread number ran m.globals.items store
  pub fits : Fits m.heap (λ s. all_held s m.globals.items)
  pub kinds : Kinds
  pub typed : AreShared parts m.globals.items kinds store

-- what follows an instruction
abbrev pub StepLeads : Parts → Ends → Step → List Item → Calling → Memory → ℕ → Bool → Type 0
StepLeads parts all steps.Goes items c m number ran =
    IsAmid parts all (said items) c m number ran
StepLeads parts all steps.Suspends items c m number ran =
    IsAmid parts all (cut items c.top) c m number ran
StepLeads parts all (steps.Ends e) items c m number ran =
    IsDone parts c.function all items e m number ran

-- what follows a segment of a call of this function: the call goes on behind a suspension
pub record GoesOn (parts : Parts) (f : FnId) (all : Ends) (segment : Segment) (c : Calling)
    (m : Memory) (number : ℕ) (ran : Bool) : Type 0 where
  pub function : c.function ≡ f
  pub yielded : segment.«end» ≡ Yielded
  pub amid : IsAmid parts all (cut segment.items c.top) c m number ran

-- or it is over
abbrev pub SegmentLeads : Parts → FnId → Ends → Segment → Option Calling → Memory → ℕ → Bool
    → Type 0
SegmentLeads parts f all segment (Some c) m number ran =
    GoesOn parts f all segment c m number ran
SegmentLeads parts f all segment None m number ran =
    IsDone parts f all segment.items segment.«end» m number ran

-- some call's top returned
pub record HasReturned (target : Option Variable) (value : Option Value) (c : Calling)
    (m : Memory) : Type 0 where
  pub parts : Parts
  pub items : List Item
  pub left : TopHasLeft parts items (endings.Returned target value) c m

-- of the same function, with the same fuel
pub record IsSameCall (c c' : Calling) : Type 0 where
  pub function : c'.function ≡ c.function
  pub fuel : c'.fuel ≡ c.fuel

-- behind what ran first the own function begins; where it ran before, the call is over
abbrev pub GoesBehind : Option Opened → Step → Calling → Type 0
GoesBehind None step c = step ≡ steps.Ends Returned
GoesBehind (Some o) step c =
    (step ≡ steps.Goes) × (c.behind ≡ None) × (c.top ≡ o.position) × (c.stack ≡ o.stack)

-- a frame that waits is a function
abbrev pub IsFunctionHead : Head → Type 0
IsFunctionHead (heads.Function p) = Unit {0}
IsFunctionHead head = ⊥

abbrev pub AreFunctions : List Frame → Type 0
AreFunctions = AllByRecursion (λ (f : Frame). IsFunctionHead f.head)

-- no frame is left: globals alone hold objects, which are fewer
pub record FramesGone (m m' : Memory) : Type 0 where
  pub globals : m'.globals.items ≡ m.globals.items
  pub fewer : Fewer m.heap m'.heap
  pub fits : Fits m'.heap (λ s. all_held s m'.globals.items)
