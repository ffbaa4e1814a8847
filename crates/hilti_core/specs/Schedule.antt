-- The order of one worker: all calls are fed, then who arrived first has each next turn.
use Rattle.std.specs.Prelude.{ℕ, ◌≤◌, List, [], ◌∷◌, ◌++◌, length, Some, None, ◌≡◌, ◌↔◌, ◌⊎◌}
use Rattle.std.specs.List.{All}
use Rattle.hilti_base.specs.declared.names.ThreadId.{ThreadId}
use Rattle.hilti_tree.specs.declared.call.Call.{Call}
use Rattle.hilti_core.specs.declared.event.Event.{Event}
use Rattle.hilti_core.specs.declared.event.Event.TheVariants.{Feed, Take, Put}
use Rattle.hilti_core.specs.Sending.{Effect}
use Rattle.hilti_core.specs.Machine.{Machine, IsComplete, RunsTo}
use Rattle.hilti_core.specs.Core.{Waiting, Running, Core, core_of_none, step, play, starts}
use Rattle.hilti_core.specs.Core.{LeadsTo}
use Rattle.hilti_core.specs.Atomic.{NothingWaits, SameDone}
use Rattle.hilti_core.specs.One.{one}

-- the thread is at home with a call in progress
pub record IsSuspended (c : Core) (r : ℕ) : Type 0 where
  pub running : Running
  pub runs : (c.thread r).running ≡ Some running
  pub home : (c.thread r).worker ≡ None

abbrev pub NoneSuspended : Core → Type 0
NoneSuspended c = (r : ℕ) → ¬ IsSuspended c r

-- of the suspended threads the one of least number
pub record IsLeastSuspended (c : Core) (r : ℕ) : Type 0 where
  pub suspended : IsSuspended c r
  pub least : (x : ℕ) → IsSuspended c x → r ≤ x

-- the call at the head of the thread's inbox was posted first of all that wait
pub record IsFirstPosted (c : Core) (r : ℕ) : Type 0 where
  pub head : Waiting
  pub rest : List Waiting
  pub inbox : c.inbox r ≡ head ∷ rest
  pub first : (x : ℕ) → All (λ (waiting : Waiting). head.number ≤ waiting.number) (c.inbox x)

-- the suspended thread of least number; with none suspended, the thread whose call was posted first
abbrev pub ArrivedFirst : Core → ℕ → Type 0
ArrivedFirst c r = IsLeastSuspended c r ⊎ (NoneSuspended c × IsFirstPosted c r)

-- no thread is suspended, and no call waits
pub record NobodyArrived (c : Core) : Type 0 where
  pub suspended : NoneSuspended c
  pub inboxes : (to : ℕ) → c.inbox to ≡ []

-- cores that are reached so: first all calls are fed; then whoever arrived first is taken, by any
-- worker, and put
pub data OneByOne (effect : Effect) (calls : List Call) (limit : ℕ) : Core → Type 0 where
  AtFirst : (c : Core) → c ≡ core_of_none calls → OneByOne effect calls limit c
  Feeding : (c d : Core) → OneByOne effect calls limit c → step effect limit Feed c ≡ Some d →
      OneByOne effect calls limit d
  Turn : (c d : Core) (worker : ℕ) (thread : ThreadId) → OneByOne effect calls limit c →
      c.unfed ≡ [] → ArrivedFirst c thread.n →
      play effect limit (Take worker thread ∷ Put worker ∷ []) (Some c) ≡ Some d →
      OneByOne effect calls limit d

-- all calls were fed, no thread is suspended, and no call waits or no more may start
pub record IsOver (limit : ℕ) (c : Core) : Type 0 where
  pub unfed : c.unfed ≡ []
  pub suspended : NoneSuspended c
  pub no_more : ((to : ℕ) → c.inbox to ≡ []) ⊎ (limit ≤ length c.started)

-- the machine's state after the one-worker history, against a core
pub record IsOneOutcome (effect : Effect) (calls : List Call) (limit : ℕ) (m : Machine) (c : Core) :
    Type 0 where
  pub runs : RunsTo effect calls (one effect calls limit) m
  pub threads : (r : ℕ) → SameDone (m.thread r) (c.thread r)
  pub segments : m.segments ≡ c.takes
  pub complete : IsComplete m ↔ NothingWaits c

-- the starts of such a core's journal are so far the one-worker history of as many picks. At the
-- end they are the one-worker history itself; its logs, calls and segments are the core's, and it
-- is complete exactly where no call waits. At most one thread is suspended; and somebody arrived
-- first where one is, or a call waits.
pub record RunsOne (effect : Effect) (calls : List Call) (limit : ℕ) (journal : List Event)
    (c : Core) : Type 0 where
  pub so_far : starts effect calls limit journal ≡ one effect calls (length c.started)
  pub ends : IsOver limit c → starts effect calls limit journal ≡ one effect calls limit
  pub outcome : IsOver limit c → ((m : Machine) × IsOneOutcome effect calls limit m c)
  pub alone : (r x : ℕ) → IsSuspended c r → IsSuspended c x → r ≡ x
  pub first : NobodyArrived c ⊎ ((r : ℕ) × ArrivedFirst c r)

abbrev pub RunsOneByOne : Effect → List Call → ℕ → List Event → Type 0
RunsOneByOne effect calls limit journal = (c : Core) → LeadsTo effect calls limit journal c →
    OneByOne effect calls limit c → RunsOne effect calls limit journal c

-- a journal that goes on in this order behind another, to its end
pub record GoesToEnd (effect : Effect) (calls : List Call) (limit : ℕ) (journal : List Event) :
    Type 0 where
  pub more : List Event
  pub last : Core
  pub leads : LeadsTo effect calls limit (journal ++ more) last
  pub order : OneByOne effect calls limit last
  pub over : IsOver limit last

-- over sound calls each core in this order can go on to an end
abbrev pub ReachesEnd : Effect → (Call → Type 0) → List Call → ℕ → List Event → Type 0
ReachesEnd effect sound calls limit journal = (c : Core) → All sound calls →
    LeadsTo effect calls limit journal c → OneByOne effect calls limit c →
    GoesToEnd effect calls limit journal
