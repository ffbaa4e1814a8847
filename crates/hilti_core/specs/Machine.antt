-- The machine of threads and channels, which runs each call at once.
use Rattle.std.specs.Prelude.{ℕ, ◌+◌, ◌==◌, ◌&&◌, cond, List, [], ◌∷◌, ◌++◌, length, Option, Some}
use Rattle.std.specs.Prelude.{None, ◌≡◌}
use Rattle.hilti_tree.specs.declared.call.Call.{Call}
use Rattle.hilti_core.specs.declared.pieces.Item.{Item}
use Rattle.hilti_core.specs.Sending.{Text, Sender, Sender.Capture, Sender.Thread, same_sender}
use Rattle.hilti_core.specs.Sending.{Message, letters, sends, lines, mail, items_of, messages}
use Rattle.hilti_core.specs.Sending.{Effect, put_at}

-- what a thread did: the calls that it ran, the lines that they printed, and how many calls they
-- sent
pub record Ran : Type 0 where
  pub calls : List Call
  pub log : List Text
  pub sent : ℕ

-- a call that was started: who sent it to whom, and how many calls its receiver had sent before
pub record Start : Type 0 where
  pub sender : Sender
  pub receiver : ℕ
  pub message : Message
  pub sent : ℕ

-- the threads, a channel from each sender to each thread, the calls that were started, and their
-- segments
pub record Machine : Type 0 where
  pub thread : ℕ → Ran
  pub channel : Sender → ℕ → List Message
  pub started : List Start
  pub segments : ℕ

-- the choice of a sender and a receiver
pub record Pick : Type 0 where
  pub sender : Sender
  pub receiver : ℕ

abbrev pub pick_of : Start → Pick
pick_of start = record { sender = start.sender; receiver = start.receiver }

-- the calls of the capture, all sent to thread 0
abbrev pub sent_first : List Call → Sender → ℕ → List Message
sent_first calls Capture to = cond (to == 0) (messages 0 calls) []
sent_first calls (Thread from) to = []

-- nothing ran yet
abbrev pub machine : List Call → Machine
machine calls = record {
  thread = λ _. record { calls = []; log = []; sent = 0 };
  channel = sent_first calls;
  started = [];
  segments = 0;
}

-- the thread's state after a call that does these items
abbrev pub after_call : Ran → Call → List Item → Ran
after_call ran call items = record {
  calls = ran.calls ++ call ∷ [];
  log = ran.log ++ lines items;
  sent = ran.sent + sends items;
}

-- the channels without the head of one, of which `rest` is left
abbrev pub without_head :
    Pick → List Message → (Sender → ℕ → List Message) → Sender → ℕ → List Message
without_head pick rest channel from to =
    cond (same_sender from pick.sender && (to == pick.receiver)) rest (channel from to)

-- what these items send to a thread, if they are those of this sender
abbrev pub sent_by : ℕ → ℕ → List Item → Sender → ℕ → List Message
sent_by thread place items from to =
    cond (same_sender from (Thread thread)) (mail to (letters place items)) []

-- the machine after the receiver ran this message, whose channel keeps `rest`
abbrev pub after_message : Effect → Pick → Message → List Message → Machine → Machine
after_message effect pick message rest m =
    let ran = m.thread pick.receiver in
    let segments = effect pick.receiver ran.calls message.call in
    let items = items_of segments in
    record {
      thread = put_at m.thread pick.receiver (after_call ran message.call items);
      channel = λ from to. without_head pick rest m.channel from to
          ++ sent_by pick.receiver ran.sent items from to;
      started = m.started ++ record {
        sender = pick.sender;
        receiver = pick.receiver;
        message = message;
        sent = ran.sent;
      } ∷ [];
      segments = m.segments + length segments;
    }

-- a pick at a channel that holds these messages
abbrev pub pick_from : Effect → Pick → Machine → List Message → Option Machine
pick_from effect pick m [] = None
pick_from effect pick m (message ∷ rest) = Some (after_message effect pick message rest m)

-- the receiver runs the call at the head of the channel, if there is one
abbrev pub pick_next : Effect → Pick → Machine → Option Machine
pick_next effect pick m = pick_from effect pick m (m.channel pick.sender pick.receiver)

-- these picks one after another, if each is legal where it stands
abbrev pub run_from : Effect → List Pick → Option Machine → Option Machine
run_from effect picks None = None
run_from effect [] (Some m) = Some m
run_from effect (pick ∷ more) (Some m) = run_from effect more (pick_next effect pick m)

-- the machine after a list of picks, where they are a history
abbrev pub run : Effect → List Call → List Pick → Option Machine
run effect calls picks = run_from effect picks (Some (machine calls))

-- these picks are a history, which leads to this machine
abbrev pub RunsTo : Effect → List Call → List Pick → Machine → Type 0
RunsTo effect calls picks m = run effect calls picks ≡ Some m

-- all channels are empty
abbrev pub IsComplete : Machine → Type 0
IsComplete m = (from : Sender) (to : ℕ) → m.channel from to ≡ []
