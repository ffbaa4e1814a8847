-- What a body promises: the segments of its effect, one after another, and what holds of every
-- effect.
use Rattle.std.specs.Prelude.{ℕ, ◌<◌, List, [], ◌∷◌, length, drop, Option, Some, None, ◌≡◌}
use Rattle.std.specs.List.{All}
use Rattle.hilti_tree.specs.declared.call.Call.{Call}
use Rattle.hilti_core.specs.declared.pieces.Item.{Item}
use Rattle.hilti_core.specs.declared.pieces.Item.TheVariants.{Send, Line}
use Rattle.hilti_core.specs.declared.pieces.Segment.{Segment}
use Rattle.hilti_core.specs.declared.pieces.End.TheVariants.{Yielded}
use Rattle.hilti_core.specs.Sending.{items_of, Effect}
use Rattle.hilti_core.specs.Core.{Running, finished_after, running_after}

-- the calls that these items send
abbrev pub sent_calls : List Item → List Call
sent_calls [] = []
sent_calls (Send to call ∷ items) = call ∷ sent_calls items
sent_calls (Line text ∷ items) = sent_calls items

-- there are segments, and all but the last are yielded
abbrev pub EndsOnce : List Segment → Type 0
EndsOnce [] = ⊥
EndsOnce (last ∷ []) = ¬ (last.end ≡ Yielded)
EndsOnce (segment ∷ next ∷ more) = (segment.end ≡ Yielded) × EndsOnce (next ∷ more)

-- the segments of a call: they end once, and each call that they send is sound
pub record IsEffect (sound : Call → Type 0) (segments : List Segment) : Type 0 where
  pub ends : EndsOnce segments
  pub sends : All sound (sent_calls (items_of segments))

-- a sound call after sound calls has such segments, on every thread
abbrev pub HasSegments : Effect → (Call → Type 0) → Type 0
HasSegments effect sound = (thread : ℕ) (finished : List Call) (call : Call) →
    All sound finished → sound call → IsEffect sound (effect thread finished call)

-- what a virtual thread ran and runs: its number, the calls that it finished, and its call in
-- progress
abbrev pub Runs : Type 1
Runs = ℕ → List Call → Option Running → Type 0

-- no call is in progress, and fewer were finished than a run may start
abbrev pub IsIdle : Runs → Type 0
IsIdle runs = (thread : ℕ) × (finished : List Call) ×
    runs thread finished None × (length finished < 100000000)

-- a call is in progress
abbrev pub IsBusy : Runs → Type 0
IsBusy runs = (thread : ℕ) × (finished : List Call) × (running : Running) ×
    runs thread finished (Some running)

-- the call is in progress now, with no segment given
abbrev pub Starts : Runs → Call → Runs → Type 0
Starts before call after = (thread : ℕ) (finished : List Call) →
    before thread finished None → after thread finished (Some (record { call = call; given = 0 }))

-- the segment is the next one of the call in progress, and the call is finished after its last
abbrev pub Gives : Effect → Runs → Segment → Runs → Type 0
Gives effect before segment after = (thread : ℕ) (finished : List Call) (running : Running) →
    before thread finished (Some running) →
    ((rest : List Segment) ×
    (drop running.given (effect thread finished running.call) ≡ segment ∷ rest) ×
    after thread (finished_after finished running rest) (running_after running rest))
