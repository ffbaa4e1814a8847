-- What a worker takes from a pool, and what it puts back.
use Rattle.std.specs.Prelude.{ℕ, ◌<◌, List, [], ◌∷◌, length, Option, Some, None, ◌≡◌, MatchOption}
use Rattle.std.specs.Prelude.{IsSomeAnd}
use Rattle.hilti_tree.specs.declared.call.Call.{Call}
use Rattle.hilti_core.specs.declared.pieces.Segment.{Segment}
use Rattle.hilti_core.specs.Sending.{Effect}
use Rattle.hilti_core.specs.Core.{Running, Resident, Core, left, finished_after, running_after}
use Rattle.hilti_core.specs.Body.{Runs}

-- the virtual thread of a thread that goes on with its call
pub record GoesOn {V : Type 0} (runs : V → Runs) (r : ℕ) (resident : Resident) (vt : Option V) :
    Type 0 where
  pub running : Running
  pub busy : resident.running ≡ Some running
  pub runs_it : IsSomeAnd vt (λ vt. runs vt r resident.finished (Some running))

-- the virtual thread of a thread that is to start a call, which is its call in progress: it
-- finished the thread's calls, or there is none yet
pub record Begins {V : Type 0} (sound : Call → Type 0) (runs : V → Runs) (r : ℕ)
    (resident : Resident) (vt : Option V) (next : Call) : Type 0 where
  pub busy : resident.running ≡ Some (record { call = next; given = 0 })
  pub sound_call : sound next
  pub runs_it : MatchOption vt (resident.finished ≡ []) (λ vt. runs vt r resident.finished None)
  pub few : length resident.finished < 100000000

-- what a job has of its thread: the virtual thread, and the call to start, if one begins
abbrev pub HasWork : {V : Type 0} → (Call → Type 0) → (V → Runs) → ℕ → Resident → Option V
    → Option Call → Type 0
HasWork sound runs r resident vt None = GoesOn runs r resident vt
HasWork sound runs r resident vt (Some call) = Begins sound runs r resident vt call

-- some thread has this work
abbrev pub CanRun : {V : Type 0} → (Call → Type 0) → (V → Runs) → ℕ → Option V → Option Call
    → Type 0
CanRun sound runs r vt next = (resident : Resident) × HasWork sound runs r resident vt next

-- the virtual thread is that of the job, or a fresh one where the job has none
abbrev pub IsHeld : {V : Type 0} → (V → Runs) → ℕ → Option V → V → Type 0
IsHeld runs r vt held = MatchOption vt (runs held r [] None) (λ vt. held ≡ vt)

-- the worker has the thread, and this is its job
pub record IsJob {V : Type 0} (sound : Call → Type 0) (runs : V → Runs) (worker r : ℕ)
    (vt : Option V) (next : Option Call) (c : Core) : Type 0 where
  pub out : c.out worker ≡ Some r
  pub work : HasWork sound runs r (c.thread r) vt next

-- the segment is the next one of the thread that the worker has, and the virtual thread ran it
pub record IsDone {V : Type 0} (effect : Effect) (runs : V → Runs) (worker r : ℕ) (vt : V)
    (segment : Segment) (c : Core) : Type 0 where
  pub out : c.out worker ≡ Some r
  pub running : Running
  pub busy : (c.thread r).running ≡ Some running
  pub rest : List Segment
  pub next : left effect r (c.thread r) ≡ segment ∷ rest
  pub runs_it : runs vt r (finished_after (c.thread r).finished running rest)
      (running_after running rest)
