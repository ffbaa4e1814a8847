-- What every history did: what was picked from a channel and what it still holds is what was sent
-- into it.
use Rattle.std.specs.Prelude.{ℕ, ◌+◌, ◌==◌, ◌&&◌, cond, List, [], ◌∷◌, ◌++◌, length, ◌≡◌}
use Rattle.hilti_tree.specs.declared.call.Call.{Call}
use Rattle.hilti_core.specs.declared.pieces.Item.{Item}
use Rattle.hilti_core.specs.Sending.{Sender, Sender.Capture, Sender.Thread, same_sender, Message}
use Rattle.hilti_core.specs.Sending.{letters, sends, lines, mail, items_of, Effect}
use Rattle.hilti_core.specs.Machine.{Ran, Start, Machine, sent_first}

-- all that calls did on a thread, one after another behind those that it ran before
abbrev pub did_from : Effect → ℕ → List Call → List Call → List Item
did_from effect r before [] = []
did_from effect r before (call ∷ more) =
    items_of (effect r before call) ++ did_from effect r (before ++ call ∷ []) more

abbrev pub did : Effect → ℕ → List Call → List Item
did effect r calls = did_from effect r [] calls

-- the number of their segments
abbrev pub segments_from : Effect → ℕ → List Call → List Call → ℕ
segments_from effect r before [] = 0
segments_from effect r before (call ∷ more) =
    length (effect r before call) + segments_from effect r (before ++ call ∷ []) more

-- the messages that a thread got from one sender, in the order of their starts
abbrev pub picked : Sender → ℕ → List Start → List Message
picked from to [] = []
picked from to (start ∷ more) =
    cond (same_sender from start.sender && (to == start.receiver))
    (start.message ∷ picked from to more) (picked from to more)

-- the calls that a thread ran, in the order of their starts
abbrev pub ran_calls : ℕ → List Start → List Call
ran_calls r [] = []
ran_calls r (start ∷ more) =
    cond (r == start.receiver) (start.message.call ∷ ran_calls r more) (ran_calls r more)

-- all that a sender sent to a thread: the capture's calls, or what the sender's own calls sent
abbrev pub sent_to : Effect → List Call → Machine → Sender → ℕ → List Message
sent_to effect calls m Capture to = sent_first calls Capture to
sent_to effect calls m (Thread from) to =
    mail to (letters 0 (did effect from (m.thread from).calls))

-- what a thread printed and sent is what its calls did
pub record IsThread (effect : Effect) (r : ℕ) (ran : Ran) : Type 0 where
  pub log : ran.log ≡ lines (did effect r ran.calls)
  pub sent : ran.sent ≡ sends (did effect r ran.calls)

-- threads are what their calls did, each channel is first in first out, and each start is one call
-- that was run
pub record IsReached (effect : Effect) (calls : List Call) (m : Machine) : Type 0 where
  pub threads : (r : ℕ) → IsThread effect r (m.thread r)
  pub channels : (from : Sender) (to : ℕ) →
      picked from to m.started ++ m.channel from to ≡ sent_to effect calls m from to
  pub ran : (r : ℕ) → (m.thread r).calls ≡ ran_calls r m.started
