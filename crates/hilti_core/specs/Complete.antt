-- Where the history of a journal is complete, told by the core.
use Rattle.std.specs.Prelude.{ℕ, List, [], ◌≡◌, ◌↔◌}
use Rattle.hilti_tree.specs.declared.call.Call.{Call}
use Rattle.hilti_core.specs.declared.event.Event.{Event}
use Rattle.hilti_core.specs.Sending.{Effect}
use Rattle.hilti_core.specs.Machine.{Machine, IsComplete, RunsTo}
use Rattle.hilti_core.specs.Core.{Core, starts, LeadsTo}
use Rattle.hilti_core.specs.Atomic.{to_come, NothingRuns, NothingWaits}

-- no call in progress sends anything in the segments that weren't given yet
abbrev pub NothingComes : Effect → Core → Type 0
NothingComes effect c = (from to : ℕ) → to_come effect from (c.thread from) to ≡ []

-- all channels are empty exactly where no call waits, the capture was fed and no call in progress
-- sends anything more; so with no call in progress, exactly where no call waits and the capture was
-- fed
pub record CompletesWith (effect : Effect) (m : Machine) (c : Core) : Type 0 where
  pub exact : IsComplete m ↔ (NothingWaits c × NothingComes effect c)
  pub still : NothingRuns c → (IsComplete m ↔ NothingWaits c)

-- the history of a legal journal is complete by its core
abbrev pub CompletesWithCore : Effect → List Call → ℕ → List Event → Type 0
CompletesWithCore effect calls limit journal = (c : Core) (m : Machine) →
    LeadsTo effect calls limit journal c →
    RunsTo effect calls (starts effect calls limit journal) m → CompletesWith effect m c
