-- What a machine runs, what its virtual threads keep, and what they ran and run.
use Rattle.std.specs.Prelude.{◌≡◌, ℕ, zero, suc, ◌+◌, ◌≤◌, ◌<◌, Bool, true, List, [], ◌∷◌, ◌++◌}
use Rattle.std.specs.Prelude.{map, drop, length, slice_get, Option, Some, None, IfSome, IsSomeAnd}
use Rattle.std.specs.Option.{unwrap_or}
use Rattle.hilti_base.specs.declared.names.FnId.{FnId}
use Rattle.hilti_tree.specs.declared.call.Call.{Call}
use Rattle.hilti_parts.specs.declared.parts.Parts.{Parts}
use Rattle.hilti_code.specs.Rows.{Rows, rows_of}
use Rattle.hilti_core.specs.Core.{Running}
use Rattle.hilti_core.specs.declared.pieces.End.TheVariants.{Yielded}
use Rattle.hilti_values.specs.declared.value.Value.{Value}
use Rattle.hilti_stack.specs.Counts as stacks
use Rattle.hilti_stack.specs.declared.head.Position.{Position}
use Rattle.hilti_stack.specs.Frames.{Frame}
use Rattle.hilti_calls.specs.Parts.{parts_of}
use Rattle.hilti_calls.specs.Stack.{rest}
use Rattle.hilti_heap.specs.Cells.{inner_at, object_at}
use Rattle.hilti_heap.specs.Held.{part, held, all_held}
use Rattle.hilti_heap.specs.Stands.{StandsFor, Fits}
use Rattle.hilti_heap.specs.Stores.{Store}
use Rattle.hilti_heap.specs.declared.object.Object.{Object}
use Rattle.hilti_effects.specs.State.{State, Close, Ends}
use Rattle.hilti_effects.specs.Acting.{at, language}
use Rattle.hilti_effects.specs.Effect.{Waiting, Waiting.Caller, Waiting.Behind, pending, opens}
use Rattle.hilti_effects.specs.Effect.{closing, state_of, fresh, first_of, state_after, segments_in}
use Rattle.hilti_shapes.specs.Needs.{Kinds}
use Rattle.hilti_code.specs.Runnable.{IsTypedProgram}
use Rattle.hilti_shapes.specs.Places.{AreShared, IsConfig}
use Rattle.hilti_shapes.specs.Keeping.{Begins}
use Rattle.hilti_openings.specs.Openings.{HoldNothing}
use Rattle.hilti_openings.specs.declared.entries.Opened.{Opened}
use Rattle.hilti_acting.specs.Acts.{thread}
use Rattle.hilti_acting.specs.Owned.{FitsWith}
use Rattle.hilti_acting.specs.declared.memory.Memory.{Memory}
use Rattle.hilti_machine.specs.declared.calling.Calling.{Calling}

-- a program, and the fuel that each call has
pub record Facts : Type 0 where
  pub parts : Parts
  pub fuel : ℕ

-- a typed program of runnable functions, with its rows
pub record IsMachine (parts : Parts) (rows : Rows) : Type 0 where
  pub typed : IsTypedProgram parts
  pub rows_are : rows_of parts ≡ Some rows

-- a virtual thread: its number, whether it began a call before, its globals and objects, and its
-- call in progress
pub record Thread : Type 0 where
  pub number : ℕ
  pub ran : Bool
  pub memory : Memory
  pub calling : Option Calling

-- its state in the meaning of calls, over a store
abbrev pub state_in : Thread → Store → State
state_in vt store = thread vt.number vt.ran vt.memory.globals.items store

-- its state after these calls
abbrev pub state_behind : Facts → ℕ → List Call → State
state_behind facts number finished =
    state_after facts.parts facts.fuel (fresh facts.parts number) finished

-- a call in progress

-- at the bottom, the call's own function where another runs first
abbrev pub bottom : Option Opened → List Waiting
bottom (Some o) = Behind (at o.position o.stack.slots) ∷ []
bottom None = []

-- all that waits below the top, the nearest last
abbrev pub waiting_in : Calling → List Waiting
waiting_in c = bottom c.behind ++ map Caller c.stack.below

abbrev pub top_of : Calling → Frame
top_of c = at c.top c.stack.slots

-- what it still does
abbrev pub still : Parts → Calling → State → Ends
still parts c st =
    rest (language parts) (pending parts) (waiting_in c) (top_of c) st c.fuel

-- a function that is still to begin: alone, of its types, and holding no object
pub record IsTypedOpening (parts : Parts) (o : Opened) : Type 0 where
  pub begins : (kinds : Kinds) → Begins parts kinds (at o.position o.stack.slots)
  pub alone : o.stack.below ≡ []
  pub none_made : o.stack.made ≡ []
  pub holds : HoldNothing o.stack.slots

-- frames, globals and objects are of their types
pub record IsTypedCall (parts : Parts) (c : Calling) (globals : List Value) (store : Store)
    : Type 0 where
  pub kinds : Kinds
  pub config : IsConfig parts c.top c.stack globals kinds store
  pub behind : IfSome c.behind (IsTypedOpening parts)
  pub function : c.function.n < length parts.functions

-- how a segment closes that isn't the call's last
abbrev pub suspension : Position → State → Close
suspension p st = record { «end» = Yielded; state = st; place = Some p }

-- Where a call is after so many segments. Before the first its opening function is at its first
-- instruction, and behind another it is in the state and at the instruction with which that one
-- closed.
abbrev pub IsSuspended : Facts → State → Call → ℕ → Calling → State → Type 0
IsSuspended facts before call zero c st =
    (top_of c ≡ opens facts.parts (first_of facts.parts before.ran) call)
    × (st ≡ record before { ran = true })
IsSuspended facts before call (suc k) c st =
    IsSomeAnd (slice_get (segments_in facts.parts facts.fuel before call) k)
    (λ part. part.close ≡ suspension c.top st)

-- A call in progress, over some store that the heap stands for: the segments that are still to come
-- are those of its meaning without the ones that were given, what it leaves is the state behind it,
-- and frames and globals alone hold objects.
pub record IsRunning (facts : Facts) (vt : Thread) (number : ℕ) (finished : List Call)
    (c : Calling) (r : Running) : Type 0 where
  pub store : Store
  pub stands : StandsFor vt.memory.heap store
  pub function : c.function ≡ r.call.function
  pub ahead : parts_of (closing facts.parts c.function) (still facts.parts c (state_in vt store))
      ≡ drop r.given
      (segments_in facts.parts facts.fuel (state_behind facts number finished) r.call)
  pub leaves : state_of (still facts.parts c (state_in vt store))
      ≡ state_behind facts number (finished ++ r.call ∷ [])
  pub suspended :
      IsSuspended facts (state_behind facts number finished) r.call r.given c (state_in vt store)
  pub fits : FitsWith vt.memory.heap c.stack vt.memory.globals.items None
  pub typed : IsTypedCall facts.parts c vt.memory.globals.items store

-- No call is in progress, and over some store that the heap stands for the thread is in the state
-- behind the calls that it finished. Globals alone hold objects.
pub record IsResting (facts : Facts) (vt : Thread) (number : ℕ) (finished : List Call) : Type 0
  where
    pub store : Store
    pub stands : StandsFor vt.memory.heap store
    pub state : state_in vt store ≡ state_behind facts number finished
    pub fits : Fits vt.memory.heap (λ s. all_held s vt.memory.globals.items)
    pub kinds : Kinds
    pub typed : AreShared facts.parts vt.memory.globals.items kinds store

-- what a thread ran and runs, by its call in progress
abbrev pub runs_by : Facts → Thread → ℕ → List Call → Option Calling → Option Running → Type 0
runs_by facts vt number finished None None = IsResting facts vt number finished
runs_by facts vt number finished (Some c) (Some r) = IsRunning facts vt number finished c r
runs_by facts vt number finished _ _ = ⊥

-- what a thread ran and runs: its number, the calls that it finished, and its call in progress with
-- the number of the segments that were given
abbrev pub runs : Facts → Thread → ℕ → List Call → Option Running → Type 0
runs facts vt number finished running = runs_by facts vt number finished vt.calling running

-- the next instruction

-- where a function is: its number, block and place in the block
abbrev pub place_of : Position → FnId × ℕ × ℕ
place_of p = (p.function, p.block, p.at)

-- at the first instruction of the function that runs first, and behind a segment where it closed
abbrev pub IsPlaceAfter : Facts → State → Call → ℕ → FnId × ℕ × ℕ → Type 0
IsPlaceAfter facts before call zero place =
    place ≡ (unwrap_or (first_of facts.parts before.ran) call.function, 0, 0)
IsPlaceAfter facts before call (suc k) place =
    IsSomeAnd (slice_get (segments_in facts.parts facts.fuel before call) k)
    (λ part. IsSomeAnd part.close.place (λ p. place ≡ place_of p))

-- the place of the next instruction, and none where no call is in progress
abbrev pub IsPlace : Facts → ℕ → List Call → Option Running → Option (FnId × ℕ × ℕ) → Type 0
IsPlace facts number finished None place = place ≡ None
IsPlace facts number finished (Some r) place =
    IsSomeAnd place (IsPlaceAfter facts (state_behind facts number finished) r.call r.given)

-- objects

-- how often the frames, the globals and the objects of a thread hold an object
abbrev pub times_held : Thread → ℕ → ℕ
times_held vt s =
    part (λ (c : Calling). stacks.held (held s) c.stack) vt.calling
    + all_held s vt.memory.globals.items + inner_at s vt.memory.heap.cells

-- each object that a thread keeps is held
abbrev pub KeepsOnlyHeld : Thread → Type 0
KeepsOnlyHeld vt = (s : ℕ) (o : Object) → object_at s vt.memory.heap.cells ≡ Some o
    → 1 ≤ times_held vt s
