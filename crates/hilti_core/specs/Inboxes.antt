-- What waits in the inboxes: the calls posted and not started, in the order of posting.
use Rattle.std.specs.Prelude.{ℕ, ◌+◌, ◌<◌, ◌≤◌, List, [], ◌∷◌, length, ◌≡◌, ◌↔◌}
use Rattle.std.specs.List.{All}
use Rattle.hilti_tree.specs.declared.call.Call.{Call}
use Rattle.hilti_core.specs.declared.event.Event.{Event}
use Rattle.hilti_core.specs.Sending.{Effect}
use Rattle.hilti_core.specs.Core.{Waiting, Core, LeadsTo}
use Rattle.hilti_core.specs.Sums.{sum_below}

-- the numbers of these calls rise
abbrev pub Rises : List Waiting → Type 0
Rises [] = Unit {0}
Rises (waiting ∷ more) = All (λ (later : Waiting). waiting.number < later.number) more × Rises more

-- no call waits for a thread from this number on
abbrev pub NoneFrom : ℕ → Core → Type 0
NoneFrom bound c = (to : ℕ) → bound ≤ to → c.inbox to ≡ []

-- how many calls wait for the threads below this number
abbrev pub waiting_below : ℕ → Core → ℕ
waiting_below bound c = sum_below bound (λ to. length (c.inbox to))

-- in each inbox the numbers of the posts rise; calls wait for finitely many threads; the calls
-- started and those that wait are as many as were posted; so none waits exactly where as many were
-- started
pub record HasInboxes (c : Core) : Type 0 where
  pub rises : (to : ℕ) → Rises (c.inbox to)
  pub bound : (bound : ℕ) × NoneFrom bound c
  pub counts : (bound : ℕ) → NoneFrom bound c →
      length c.started + waiting_below bound c ≡ length c.posts
  pub none : ((to : ℕ) → c.inbox to ≡ []) ↔ (length c.started ≡ length c.posts)

abbrev pub KeepsInboxes : Effect → List Call → ℕ → List Event → Type 0
KeepsInboxes effect calls limit journal = (c : Core) →
    LeadsTo effect calls limit journal c → HasInboxes c
