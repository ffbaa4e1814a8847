-- What a call does on a thread, after the calls that the thread ran before.
use Rattle.std.specs.Prelude.{ℕ, Bool, true, false, List, [], ◌∷◌, ◌++◌, map, Option}
use Rattle.std.specs.Prelude.{Some, None, slice_get, codes}
use Rattle.hilti_base.specs.declared.names.FnId.{FnId}
use Rattle.hilti_tree.specs.declared.call.Call.{Call as Called}
use Rattle.hilti_tree.specs.declared.tree.Tree.{Tree}
use Rattle.hilti_tree.specs.declared.tree.Tree.TheOpen.{Tree-F}
use Rattle.hilti_tree.specs.declared.tree.Tree.TheFolds.{fold-Tree}
use Rattle.hilti_parts.specs.declared.parts.Exception.{Exception}
use Rattle.hilti_parts.specs.declared.parts.Function.{Function}
use Rattle.hilti_parts.specs.declared.parts.Global.{Global}
use Rattle.hilti_parts.specs.declared.parts.Parts.{Parts}
use Rattle.hilti_print.specs.Texts.{escaped_text}
use Rattle.hilti_core.specs.declared.pieces.Item.{Item}
use Rattle.hilti_core.specs.declared.pieces.Item.TheVariants.{Line}
use Rattle.hilti_core.specs.declared.pieces.Segment.{Segment}
use Rattle.hilti_core.specs.declared.pieces.End.{End}
use Rattle.hilti_core.specs.declared.pieces.End.TheVariants as ends
use Rattle.hilti_program.specs.Programs.{named}
use Rattle.hilti_stack.specs.Frames.{Frame}
use Rattle.hilti_calls.specs.Calls.{Back, Back.Out, Outcome.Ended, Outcome.Spent}
use Rattle.hilti_calls.specs.Stack.{Pending, rest}
use Rattle.hilti_calls.specs.Parts.{Part, Closing, parts_of}
use Rattle.hilti_values.specs.declared.value.Value.{Value}
use Rattle.hilti_values.specs.declared.value.Value.TheVariants as values
use Rattle.hilti_effects.specs.declared.ending.Ending.{Ending}
use Rattle.hilti_effects.specs.declared.ending.Ending.TheVariants as endings
use Rattle.hilti_effects.specs.State.{State, Close, Ends, Parts as Segments}
use Rattle.hilti_effects.specs.Acting.{language, entry, resume}

-- the value of a tree that holds no object
abbrev pub value_step : Tree-F Value → Value
value_step (Tree-F.Bool truth) = values.Bool truth
value_step (Tree-F.Int n) = values.Int n
value_step (Tree-F.Text bytes) = values.Text bytes
value_step (Tree-F.Bytes bytes) = values.Bytes bytes
value_step (Tree-F.Addr address) = values.Addr address
value_step (Tree-F.Net address length) = values.Net length address
value_step (Tree-F.Port n is_udp) = values.Port n is_udp
value_step (Tree-F.Time nanos) = values.Time nanos
value_step (Tree-F.Span nanos) = values.Span nanos
value_step (Tree-F.Pick n) = values.Pick n
value_step (Tree-F.Tuple parts) = values.Tuple parts
value_step _ = values.Null

abbrev pub value_of_tree : Tree → Value
value_of_tree = fold-Tree Value value_step

-- the frames of a call

-- what waits below a frame: a function with its one callee, or the call's own function, which runs
-- behind `Main::init`
pub data Waiting : Type 0 where
  Caller : (frame : Frame) → Waiting
  Behind : (frame : Frame) → Waiting

abbrev pub more_of : Waiting → List Frame
more_of (Caller frame) = []
more_of (Behind frame) = frame ∷ []

abbrev pub back_of : Parts → Waiting → Ending → State → Back Frame State Ending
back_of parts (Caller frame) ending st = resume parts frame ending st
back_of parts (Behind frame) ending st = Out ending st

abbrev pub pending : Parts → Pending Frame Waiting State Ending
pending parts = record { more = more_of; back = back_of parts }

abbrev pub called : Parts → Called → Frame
called parts call = entry parts call.function (map value_of_tree call.args) None

-- the function that runs first, before which the call's own waits where there is one
abbrev pub opens : Parts → Option FnId → Called → Frame
opens parts (Some f) call = entry parts f [] None
opens parts None call = called parts call

abbrev pub waits : Parts → Option FnId → Called → List Waiting
waits parts (Some f) call = Behind (called parts call) ∷ []
waits parts None call = []

-- segments

abbrev pub closed : End → State → Close
closed e st = record { «end» = e; state = st; place = None }

abbrev pub name_in : Option Function → List ℕ
name_in (Some function) = function.name
name_in None = []

abbrev pub name_of : Parts → FnId → List ℕ
name_of parts f = name_in (slice_get parts.functions f.n)

abbrev pub exception_name : Option Exception → List ℕ
exception_name (Some e) = e.name
exception_name None = []

-- the line of a call that an exception ended
abbrev pub uncaught_line : Parts → ℕ → List ℕ → FnId → List ℕ
uncaught_line parts e text f =
    codes "! uncaught " ++ exception_name (slice_get parts.exceptions e) ++ codes " \""
    ++ escaped_text text ++ codes "\" in " ++ name_of parts f

-- the line of a call that spent its fuel
abbrev pub spent_line : Parts → FnId → List ℕ
spent_line parts f = codes "! out of fuel in " ++ name_of parts f

-- how the last segment ends
abbrev pub over : Parts → FnId → Ending → State → Part Item Close
over parts f (endings.Raised e text) st = record {
  items = Line (uncaught_line parts e text f) ∷ [];
  close = closed (ends.Raised e) st;
}
over parts f ending st = record { items = []; close = closed ends.Returned st }

abbrev pub spent : Parts → FnId → State → Part Item Close
spent parts f st =
    record { items = Line (spent_line parts f) ∷ []; close = closed ends.OutOfFuel st }

abbrev pub closing : Parts → FnId → Closing State Ending Item Close
closing parts f = record { over = over parts f; spent = spent parts f }

-- threads

abbrev pub state_of : Ends → State
state_of (Ended ending st left trace) = st
state_of (Spent st trace) = st

-- a thread that ran nothing
abbrev pub fresh : Parts → ℕ → State
fresh parts number = record {
  number = number;
  globals = map (λ (g : Global). value_of_tree g.first) parts.globals;
  store = record { next = 0; object = λ s. None };
  ran = false;
}

-- the function that a thread in this state runs before a call
abbrev pub first_of : Parts → Bool → Option FnId
first_of parts false = named parts (codes "Main::init")
first_of parts true = None

-- how a call ends on a thread in this state
abbrev pub outcome : Parts → ℕ → State → Called → Ends
outcome parts fuel st call =
    rest (language parts) (pending parts) (waits parts (first_of parts st.ran) call)
    (opens parts (first_of parts st.ran) call) (record st { ran = true }) fuel

-- the thread after these calls
abbrev pub state_after : Parts → ℕ → State → List Called → State
state_after parts fuel st [] = st
state_after parts fuel st (call ∷ more) =
    state_after parts fuel (state_of (outcome parts fuel st call)) more

-- the segments of a call in this state, each with the thread and the place at its end
abbrev pub segments_in : Parts → ℕ → State → Called → Segments
segments_in parts fuel st call =
    parts_of (closing parts call.function) (outcome parts fuel st call)

abbrev pub segment_of : Part Item Close → Segment
segment_of part = record { items = part.items; «end» = part.close.«end» }

-- the segments of a call on this thread, after the calls that it finished
abbrev pub effect : Parts → ℕ → ℕ → List Called → Called → List Segment
effect parts fuel number finished call =
    map segment_of
    (segments_in parts fuel (state_after parts fuel (fresh parts number) finished) call)
