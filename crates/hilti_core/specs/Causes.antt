-- Which calls come before which, and the law of causal arrival.
use Rattle.std.specs.Prelude.{ℕ, ◌<◌, ◌≤◌, List, ◌∷◌, ◌++◌, ◌≡◌, ◌⊎◌}
use Rattle.std.specs.List.{Contains}
use Rattle.hilti_tree.specs.declared.call.Call.{Call}
use Rattle.hilti_core.specs.declared.event.Event.{Event}
use Rattle.hilti_core.specs.Sending.{Sender, Sender.Thread, Message, Effect}
use Rattle.hilti_core.specs.Machine.{Start, Machine, RunsTo}
use Rattle.hilti_core.specs.Core.{Post, Core, starts, LeadsTo}

-- the name of a call that was sent: its sender, and its place among the calls of that sender
pub record Name : Type 0 where
  pub sender : Sender
  pub place : ℕ

abbrev pub start_name : Start → Name
start_name start = record { sender = start.sender; place = start.message.place }

abbrev pub post_name : Post → Name
post_name post = record { sender = post.sender; place = post.letter.message.place }

-- one sender sent m earlier than n; or m was started and its receiver sent n in that call or later;
-- or one through another
pub data Before (started : List Start) : Name → Name → Type 0 where
  Earlier : (m n : Name) → m.sender ≡ n.sender → m.place < n.place → Before started m n
  Caused : (m n : Name) (start : Start) → Contains started start → start_name start ≡ m →
      n.sender ≡ Thread start.receiver → start.sent ≤ n.place → Before started m n
  Through : (m k n : Name) → Before started m k → Before started k n → Before started m n

-- a call of this name is among these posts
abbrev pub WasPosted : List Post → Name → Type 0
WasPosted posts name = (post : Post) × Contains posts post × (post_name post ≡ name)

-- a call of this name is among these starts, on this thread
abbrev pub WasStarted : List Start → Name → ℕ → Type 0
WasStarted started name to =
    (start : Start) × Contains started start × (start_name start ≡ name) × (start.receiver ≡ to)

-- a call of this name was sent to the thread: it was started there or waits in the channel
abbrev pub WasSentTo : Machine → Name → ℕ → Type 0
WasSentTo m name to = WasStarted m.started name to ⊎
    ((message : Message) × Contains (m.channel name.sender to) message ×
    (message.place ≡ name.place))

-- a call is posted once, and after each call that comes before it
pub record IsPostedInOrder (c : Core) : Type 0 where
  pub after : (front back : List Post) (post : Post) (name : Name) →
      c.posts ≡ front ++ post ∷ back → Before c.started name (post_name post) →
      WasPosted front name
  pub once : (front back : List Post) (post : Post) → c.posts ≡ front ++ post ∷ back →
      ¬ WasPosted front (post_name post)

-- of two calls to one thread, of which one comes before the other, the other is started only after
-- the one
abbrev pub IsCausal : Machine → Type 0
IsCausal m = (front back : List Start) (start : Start) (name : Name) →
    m.started ≡ front ++ start ∷ back → Before m.started name (start_name start) →
    WasSentTo m name start.receiver → WasStarted front name start.receiver

-- each legal journal posts in this order, and its starts are a causal history
abbrev pub ArrivesCausally : Effect → List Call → ℕ → List Event → Type 0
ArrivesCausally effect calls limit journal = (c : Core) → LeadsTo effect calls limit journal c →
    (IsPostedInOrder c ×
    ((m : Machine) → RunsTo effect calls (starts effect calls limit journal) m → IsCausal m))
