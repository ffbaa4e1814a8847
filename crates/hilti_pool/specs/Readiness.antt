-- Which threads of a core are ready, out, suspended or waiting.
use Rattle.std.specs.Prelude.{ℕ, ◌+◌, ◌<◌, ◌≤◌, List, [], ◌∷◌, length, Option, Some, None, ◌≡◌, ◌⊎◌}
use Rattle.std.specs.List.{All}
use Rattle.hilti_core.specs.Core.{Waiting, Running, Core}

-- the thread is at home
abbrev pub IsHome : Core → ℕ → Type 0
IsHome c r = (c.thread r).worker ≡ None

-- the thread is at home, and has a call in progress
abbrev pub IsSuspended : Core → ℕ → Type 0
IsSuspended c r = IsHome c r × ((running : Running) × ((c.thread r).running ≡ Some running))

-- a call waits in the thread's inbox
abbrev pub HasMail : Core → ℕ → Type 0
HasMail c r = ¬ (c.inbox r ≡ [])

-- the thread is at home, and is suspended, or has a waiting call where fewer calls than the limit
-- have started
abbrev pub IsReady : ℕ → Core → ℕ → Type 0
IsReady limit c r = IsSuspended c r ⊎ (IsHome c r × HasMail c r × (length c.started < limit))

abbrev pub NoneReady : ℕ → Core → Type 0
NoneReady limit c = (r : ℕ) → ¬ IsReady limit c r

-- some thread is out
abbrev pub SomeOut : Core → Type 0
SomeOut c = (worker : ℕ) × ((r : ℕ) × (c.out worker ≡ Some r))

abbrev pub NoneOut : Core → Type 0
NoneOut c = (worker : ℕ) → c.out worker ≡ None

-- a call waits
abbrev pub SomeMail : Core → Type 0
SomeMail c = (r : ℕ) × HasMail c r

-- nothing waits
abbrev pub NoMail : Core → Type 0
NoMail c = (r : ℕ) → c.inbox r ≡ []

abbrev pub NoneSuspended : Core → Type 0
NoneSuspended c = (r : ℕ) → ¬ IsSuspended c r

-- the thread is suspended, and each suspended thread has a number of at least its own
pub record IsFirstSuspended (c : Core) (r : ℕ) : Type 0 where
  pub suspended : IsSuspended c r
  pub least : (other : ℕ) → IsSuspended c other → r ≤ other

-- the call at the head of the thread's inbox was posted first of all that wait
pub record IsFirstPosted (c : Core) (r : ℕ) : Type 0 where
  pub head : Waiting
  pub rest : List Waiting
  pub inbox : c.inbox r ≡ head ∷ rest
  pub least : (other : ℕ) → All (λ waiting. head.number ≤ waiting.number) (c.inbox other)

-- the thread that goes on where one worker runs all: a suspended one of least number, or the one
-- whose call was posted first; none where none is suspended and nothing waits
abbrev pub IsFirst : Core → Option ℕ → Type 0
IsFirst c None = NoneSuspended c × NoMail c
IsFirst c (Some r) = IsFirstSuspended c r ⊎ (NoneSuspended c × IsFirstPosted c r)

-- how many calls wait in all inboxes: those that were posted, without those that were started
abbrev pub HasWaiting : Core → ℕ → Type 0
HasWaiting c n = n + length c.started ≡ length c.posts
