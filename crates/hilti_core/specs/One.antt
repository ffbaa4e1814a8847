-- The one-worker history, and the law of one sender.
use Rattle.std.specs.Prelude.{ℕ, ◌<◌, ◌≤◌, zero, suc, List, [], ◌∷◌, ◌++◌, length, map, Option}
use Rattle.std.specs.Prelude.{Some, None, ◌≡◌}
use Rattle.std.specs.List.{Contains}
use Rattle.hilti_tree.specs.declared.call.Call.{Call}
use Rattle.hilti_core.specs.Sending.{Sender.Capture, Sender.Thread, Message, Letter, letters}
use Rattle.hilti_core.specs.Sending.{items_of, Effect}
use Rattle.hilti_core.specs.Machine.{Start, Machine, Pick, machine, pick_next, RunsTo, IsComplete}

-- what a receiver sends when it runs the head of a channel
abbrev pub letters_of : Effect → Pick → Machine → List Message → List Letter
letters_of effect pick m [] = []
letters_of effect pick m (message ∷ rest) =
    let ran = m.thread pick.receiver in
    letters ran.sent (items_of (effect pick.receiver ran.calls message.call))

-- the picks of what a thread sent
abbrev pub picks_for : ℕ → List Letter → List Pick
picks_for thread sent = map (λ letter. record { sender = Thread thread; receiver = letter.to }) sent

-- at most `limit` picks, each of the call that was sent first: `queue` is what was sent and not
-- picked, in order
abbrev pub one_from : Effect → ℕ → Option Machine → List Pick → List Pick
one_from effect zero o queue = []
one_from effect (suc limit) None queue = []
one_from effect (suc limit) (Some m) [] = []
one_from effect (suc limit) (Some m) (pick ∷ queue) =
    let sent = letters_of effect pick m (m.channel pick.sender pick.receiver) in
    pick ∷ one_from effect limit (pick_next effect pick m) (queue ++ picks_for pick.receiver sent)

-- the history that always picks the call that was sent first, the capture's calls before all others
abbrev pub one : Effect → List Call → ℕ → List Pick
one effect calls limit = one_from effect limit (Some (machine calls))
    (map (λ _. record { sender = Capture; receiver = 0 }) calls)

-- the calls of each receiver have one sender
abbrev pub HasOneSender : List Start → Type 0
HasOneSender started = (x y : Start) → Contains started x → Contains started y →
    x.receiver ≡ y.receiver → x.sender ≡ y.sender

-- equal logs and calls on every thread, and as many segments
pub record SameOutcome (m n : Machine) : Type 0 where
  pub threads : (r : ℕ) → m.thread r ≡ n.thread r
  pub segments : m.segments ≡ n.segments

-- no history has more picks, and each complete one ends alike
pub record IsBest (effect : Effect) (calls : List Call) (m : Machine) (length_of_one : ℕ) :
    Type 0 where
  pub most : (picks : List Pick) (n : Machine) → RunsTo effect calls picks n →
      length picks ≤ length_of_one
  pub same : (picks : List Pick) (n : Machine) → RunsTo effect calls picks n → IsComplete n →
      SameOutcome n m

-- the one-worker history: it has at most as many picks as the limit, and is complete where it has
-- fewer; where it is complete and has one sender, no history gives another outcome
pub record IsOneHistory (effect : Effect) (calls : List Call) (limit : ℕ) (m : Machine) :
    Type 0 where
  pub runs : RunsTo effect calls (one effect calls limit) m
  pub within : length (one effect calls limit) ≤ limit
  pub ends : length (one effect calls limit) < limit → IsComplete m
  pub best : IsComplete m → HasOneSender m.started →
      IsBest effect calls m (length (one effect calls limit))

abbrev pub HasOneAnswer : Effect → List Call → ℕ → Type 0
HasOneAnswer effect calls limit = (m : Machine) × IsOneHistory effect calls limit m

-- every complete history starts as many calls as the one-worker history, where that is complete and
-- has one sender
pub record SameCount (some_picks one_picks : List Pick) (n m : Machine) : Type 0 where
  pub picks : length some_picks ≡ length one_picks
  pub started : length n.started ≡ length m.started

abbrev pub HasOneCount : Effect → List Call → ℕ → Type 0
HasOneCount effect calls limit = (m : Machine) (picks : List Pick) (n : Machine) →
    RunsTo effect calls (one effect calls limit) m → IsComplete m → HasOneSender m.started →
    RunsTo effect calls picks n → IsComplete n → SameCount picks (one effect calls limit) n m
