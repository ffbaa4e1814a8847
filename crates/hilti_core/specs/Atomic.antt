-- The law of call-atomic order: what workers do in the core is a history of the machine that runs
-- each call at once.
use Rattle.std.specs.Prelude.{ℕ, ◌+◌, ◌==◌, cond, List, [], ◌∷◌, ◌++◌, length, Option, Some, None}
use Rattle.std.specs.Prelude.{◌≡◌}
use Rattle.hilti_tree.specs.declared.call.Call.{Call}
use Rattle.hilti_core.specs.declared.event.Event.{Event}
use Rattle.hilti_core.specs.Sending.{Sender, Sender.Capture, Sender.Thread, same_sender, Message}
use Rattle.hilti_core.specs.Sending.{letters, sends, lines, mail, items_of, messages, Effect}
use Rattle.hilti_core.specs.Machine.{Ran, Machine, Pick, IsComplete, RunsTo}
use Rattle.hilti_core.specs.Core.{Waiting, Running, Resident, Core, left, starts, LeadsTo}

-- the calls that a thread started: those that it finished, and the one in progress
abbrev pub started_calls : List Call → Option Running → List Call
started_calls finished None = finished
started_calls finished (Some running) = finished ++ running.call ∷ []

-- the messages of an inbox that come from one sender
abbrev pub from_sender : Sender → List Waiting → List Message
from_sender sender [] = []
from_sender sender (waiting ∷ more) =
    let later = from_sender sender more in
    cond (same_sender sender waiting.sender) (waiting.message ∷ later) later

-- what a thread still has to post to another: the calls sent in the segments that weren't given yet
abbrev pub to_come : Effect → ℕ → Resident → ℕ → List Message
to_come effect r resident to = mail to (letters resident.sent (items_of (left effect r resident)))

-- the capture's calls that weren't fed yet, all for thread 0
abbrev pub to_feed : Core → ℕ → List Message
to_feed c to = cond (to == 0) (messages c.fed c.unfed) []

-- what a thread ran at once, against what it did segment by segment
pub record ThreadCompares (effect : Effect) (r : ℕ) (ran : Ran) (resident : Resident) : Type 0 where
  pub calls : ran.calls ≡ started_calls resident.finished resident.running
  pub log : ran.log ≡ resident.log ++ lines (items_of (left effect r resident))
  pub sent : ran.sent ≡ resident.sent + sends (items_of (left effect r resident))

-- the machine against the core: each thread, each channel, and the calls that were started
pub record Compares (effect : Effect) (m : Machine) (c : Core) : Type 0 where
  pub threads : (r : ℕ) → ThreadCompares effect r (m.thread r) (c.thread r)
  pub channels : (from to : ℕ) →
      m.channel (Thread from) to ≡
      from_sender (Thread from) (c.inbox to) ++ to_come effect from (c.thread from) to
  pub capture : (to : ℕ) → m.channel Capture to ≡ from_sender Capture (c.inbox to) ++ to_feed c to
  pub started : m.started ≡ c.started

-- a worker has a thread exactly where the thread is out at it, and a thread that is out has a call
-- in progress
pub record HasSeats (thread : ℕ → Resident) (out : ℕ → Option ℕ) : Type 0 where
  pub seated : (worker r : ℕ) → out worker ≡ Some r → (thread r).worker ≡ Some worker
  pub sits : (r worker : ℕ) → (thread r).worker ≡ Some worker → out worker ≡ Some r
  pub busy : (r worker : ℕ) → (thread r).worker ≡ Some worker →
      ((running : Running) × ((thread r).running ≡ Some running))

-- no call is in progress
abbrev pub NothingRuns : Core → Type 0
NothingRuns c = (r : ℕ) → (c.thread r).running ≡ None

-- no call waits, and all of the capture was fed
pub record NothingWaits (c : Core) : Type 0 where
  pub inboxes : (to : ℕ) → c.inbox to ≡ []
  pub unfed : c.unfed ≡ []

-- a thread that ran at once and one that ran segment by segment did the same
pub record SameDone (ran : Ran) (resident : Resident) : Type 0 where
  pub calls : ran.calls ≡ resident.finished
  pub log : ran.log ≡ resident.log
  pub sent : ran.sent ≡ resident.sent

-- the history of a journal: its state compares with the core's; where no call is in progress the
-- threads did the same in as many segments as were taken; where no call waits either the history is
-- complete
pub record IsHistoryOf (effect : Effect) (picks : List Pick) (m : Machine) (c : Core) : Type 0 where
  pub compares : Compares effect m c
  pub starts : length picks ≡ length c.started
  pub threads : NothingRuns c → (r : ℕ) → SameDone (m.thread r) (c.thread r)
  pub segments : NothingRuns c → m.segments ≡ c.takes
  pub complete : NothingRuns c → NothingWaits c → IsComplete m

-- the starts of each legal journal are a history, which compares with the core
abbrev pub IsCallAtomic : Effect → List Call → ℕ → List Event → Type 0
IsCallAtomic effect calls limit journal = (c : Core) → LeadsTo effect calls limit journal c →
    ((m : Machine) × RunsTo effect calls (starts effect calls limit journal) m ×
    IsHistoryOf effect (starts effect calls limit journal) m c)
