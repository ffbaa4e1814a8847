-- Who sends calls, and what the items of a call send and print.
use Rattle.std.specs.Prelude.{ℕ, ◌==◌, suc, Bool, true, false, cond, List, [], ◌∷◌, ◌++◌}
use Rattle.hilti_tree.specs.declared.call.Call.{Call}
use Rattle.hilti_core.specs.declared.pieces.Item.{Item}
use Rattle.hilti_core.specs.declared.pieces.Item.TheVariants.{Send, Line}
use Rattle.hilti_core.specs.declared.pieces.Segment.{Segment}

-- a line that was printed, by its bytes
abbrev pub Text : Type 0
Text = List ℕ

-- the capture, which sends the calls of a run to thread 0, or a thread
pub data Sender : Type 0 where
  Capture : Sender
  Thread : (number : ℕ) → Sender

-- are they one sender?
abbrev pub same_sender : Sender → Sender → Bool
same_sender Capture Capture = true
same_sender Capture (Thread b) = false
same_sender (Thread a) Capture = false
same_sender (Thread a) (Thread b) = a == b

-- a call that was sent, and how many calls its sender had sent before it
pub record Message : Type 0 where
  pub call : Call
  pub place : ℕ

-- a message and the thread that it goes to
pub record Letter : Type 0 where
  pub to : ℕ
  pub message : Message

-- what these items send, in order, where `place` calls were sent before them
abbrev pub letters : ℕ → List Item → List Letter
letters place [] = []
letters place (Send to call ∷ items) =
    record { to = to.n; message = record { call = call; place = place } }
    ∷ letters (suc place) items
letters place (Line text ∷ items) = letters place items

-- how many calls these items send
abbrev pub sends : List Item → ℕ
sends [] = 0
sends (Send to call ∷ items) = suc (sends items)
sends (Line text ∷ items) = sends items

-- what these items print, in order
abbrev pub lines : List Item → List Text
lines [] = []
lines (Send to call ∷ items) = lines items
lines (Line text ∷ items) = text ∷ lines items

-- the messages for one thread
abbrev pub mail : ℕ → List Letter → List Message
mail to [] = []
mail to (letter ∷ more) = cond (to == letter.to) (letter.message ∷ mail to more) (mail to more)

-- all that these segments do
abbrev pub items_of : List Segment → List Item
items_of [] = []
items_of (segment ∷ more) = segment.items ++ items_of more

-- the capture's calls as messages, where `place` of its calls were sent before them
abbrev pub messages : ℕ → List Call → List Message
messages place [] = []
messages place (call ∷ more) = record { call = call; place = place } ∷ messages (suc place) more

-- what a call does on a thread after the calls that the thread ran before: its segments
abbrev pub Effect : Type 0
Effect = ℕ → List Call → Call → List Segment

-- a function that gives another value at one number
abbrev pub put_at : {A : Type 0} → (ℕ → A) → ℕ → A → ℕ → A
put_at f n value x = cond (x == n) value (f x)
