-- What every legal core keeps, whatever runs.
use Rattle.std.specs.Prelude.{ℕ, ◌==◌, ◌≤◌, cond, List, [], ◌∷◌, ◌++◌, length, map, drop, slice_get}
use Rattle.std.specs.Prelude.{Some, ◌≡◌}
use Rattle.std.specs.List.{All, Contains}
use Rattle.hilti_tree.specs.declared.call.Call.{Call}
use Rattle.hilti_core.specs.declared.event.Event.{Event}
use Rattle.hilti_core.specs.Sending.{Effect}
use Rattle.hilti_core.specs.Machine.{Start, Machine, Pick, RunsTo}
use Rattle.hilti_core.specs.Core.{Waiting, Running, Core, Post, LeadsTo}
use Rattle.hilti_core.specs.Atomic.{HasSeats}
use Rattle.hilti_core.specs.History.{IsReached}
use Rattle.hilti_core.specs.Causes.{Name, start_name, post_name}

-- the names of the posts to a thread, in their order
abbrev pub posts_to : ℕ → List Post → List Name
posts_to to [] = []
posts_to to (post ∷ more) =
    cond (to == post.letter.to) (post_name post ∷ posts_to to more) (posts_to to more)

-- the names of the calls that a thread started, in their order
abbrev pub starts_at : ℕ → List Start → List Name
starts_at to [] = []
starts_at to (start ∷ more) =
    cond (to == start.receiver) (start_name start ∷ starts_at to more) (starts_at to more)

abbrev pub waiting_name : Waiting → Name
waiting_name waiting = record { sender = waiting.sender; place = waiting.message.place }

-- the post that a waiting call was
abbrev pub post_of : ℕ → Waiting → Post
post_of to waiting =
    record { sender = waiting.sender; letter = record { to = to; message = waiting.message } }

-- workers and threads agree, no more calls started than may, the calls fed are the capture's first,
-- each inbox is first in first out, and its calls are numbered in the order of posting over all
-- threads
pub record IsKept (calls : List Call) (limit : ℕ) (c : Core) : Type 0 where
  pub seats : HasSeats c.thread c.out
  pub within : length c.started ≤ limit
  pub unfed : drop c.fed calls ≡ c.unfed
  pub arrivals : (to : ℕ) →
      posts_to to c.posts ≡ starts_at to c.started ++ map waiting_name (c.inbox to)
  pub numbers : (to : ℕ) →
      All (λ waiting. slice_get c.posts waiting.number ≡ Some (post_of to waiting)) (c.inbox to)

-- every call in the core is sound
pub record IsSoundCore (sound : Call → Type 0) (c : Core) : Type 0 where
  pub inboxes : (to : ℕ) → All (λ waiting. sound waiting.message.call) (c.inbox to)
  pub finished : (r : ℕ) → All sound (c.thread r).finished
  pub running : (r : ℕ) (running : Running) →
      (c.thread r).running ≡ Some running → sound running.call
  pub unfed : All sound c.unfed

abbrev pub KeepsCore : Effect → (Call → Type 0) → List Call → ℕ → List Event → Type 0
KeepsCore effect sound calls limit journal = (c : Core) → LeadsTo effect calls limit journal c →
    (IsKept calls limit c × (All sound calls → IsSoundCore sound c))

-- calls behind those of a capture that weren't fed change nothing else
abbrev pub TakesMore : Effect → List Call → List Call → ℕ → List Event → Type 0
TakesMore effect calls more limit journal = (c : Core) → LeadsTo effect calls limit journal c →
    LeadsTo effect (calls ++ more) limit journal (record c { unfed = c.unfed ++ more })

-- a history can go on by a pick where the channel isn't empty
abbrev pub CanGoOn : Effect → List Call → List Pick → Machine → Type 0
CanGoOn effect calls picks m = (pick : Pick) → ¬ (m.channel pick.sender pick.receiver ≡ []) →
    ((n : Machine) × RunsTo effect calls (picks ++ pick ∷ []) n)

-- no call is started twice
abbrev pub StartsOnce : Machine → Type 0
StartsOnce m = (front back : List Start) (start earlier : Start) →
    m.started ≡ front ++ start ∷ back → Contains front earlier →
    ¬ (start_name earlier ≡ start_name start)

-- what every history has
pub record IsHistory (effect : Effect) (calls : List Call) (picks : List Pick) (m : Machine) :
    Type 0 where
  pub reached : IsReached effect calls m
  pub once : StartsOnce m
  pub on : CanGoOn effect calls picks m

abbrev pub AreHistories : Effect → List Call → List Pick → Type 0
AreHistories effect calls picks = (m : Machine) →
    RunsTo effect calls picks m → IsHistory effect calls picks m
