-- The calls that a feed will still give, and how its capture ends.
use Rattle.std.specs.Prelude.{◌≡◌, ◌≢◌, ◌⊎◌, ◌↔◌, ℕ, ◌+◌, Bool, true, false, List, [], IsTrue}
use Rattle.std.specs.Prelude.{Option, Some, None, is_some, ◌||◌}
use Rattle.hilti_base.specs.declared.names.FnId.{FnId}
use Rattle.hilti_pcap.specs.Endings.{CaptureEnding, Whole, Cut, Bad}
use Rattle.hilti_pcap.specs.Readings.{Reading}
use Rattle.hilti_tree.specs.declared.call.Call.{Call}
use Rattle.hilti_feed.specs.declared.tail.Outcome.{Outcome}
use Rattle.hilti_feed.specs.declared.tail.Outcome.TheVariants as outcomes
use Rattle.hilti_feed.specs.declared.progress.Progress.{Progress}
use Rattle.hilti_feed.specs.Calls.{calls_of, done_call}
use Rattle.hilti_feed.specs.Tails.{reading_of, weight}

-- the function that is called at the end, unless it was
abbrev pub owed : Bool → Option FnId → Option FnId
owed true function = None
owed false function = function

-- the calls that are left of what is read, none where the capture was read to its end
abbrev pub calls_after : Outcome → Progress → Reading → List Call
calls_after outcomes.Reading progress reading =
    calls_of progress.packet (owed progress.done_given progress.done) reading
calls_after outcomes.Whole progress reading = []
calls_after (outcomes.Cut at) progress reading = []
calls_after (outcomes.Bad at code) progress reading = []
calls_after outcomes.ReadFault progress reading = []

-- the calls that are left, with these bytes unread in the file
abbrev pub calls_left : Progress → List ℕ → List Call
calls_left progress rest =
    calls_after progress.outcome progress (reading_of progress.tail rest)

-- how the capture ended, or will end
abbrev pub ending_after : Outcome → Reading → CaptureEnding
ending_after outcomes.Reading reading = reading.ending
ending_after outcomes.Whole reading = Whole
ending_after (outcomes.Cut at) reading = Cut at
ending_after (outcomes.Bad at code) reading = Bad at code
ending_after outcomes.ReadFault reading = reading.ending

abbrev pub ending_left : Progress → List ℕ → CaptureEnding
ending_left progress rest = ending_after progress.outcome (reading_of progress.tail rest)

-- what the call at the end weighs, which is more than any tail does, until it is given
abbrev pub done_weight : Bool → ℕ
done_weight true = 0
done_weight false = 2147483650

-- a measure of the calls that are left: it falls where a call is given
abbrev pub calls_weight : Progress → ℕ
calls_weight progress = done_weight progress.done_given + weight progress.tail

-- whether a failed read ended it, and whether it was read to its end
abbrev pub is_lost : Outcome → Bool
is_lost outcomes.ReadFault = true
is_lost _ = false

abbrev pub is_over : Outcome → Bool
is_over outcomes.Reading = false
is_over _ = true

-- nothing was left, or a failed read ended it now; and nothing is left now
abbrev pub IsOverBy : Outcome → Outcome → List Call → List Call → Type 0
IsOverBy before after left left' =
    ((left ≡ []) ⊎ ((is_lost before ≡ false) × (is_lost after ≡ true))) × (left' ≡ [])

-- whether a call was left, unless a failed read ended it now; and nothing is left now
abbrev pub IsSkippedBy : Outcome → Outcome → Bool → List Call → List Call → Type 0
IsSkippedBy before after more left left' =
    (((is_lost before ≡ false) × (is_lost after ≡ true)) ⊎ (IsTrue more ↔ (left ≢ [])))
    × (left' ≡ [])

-- what a feed was made with stays
abbrev pub SameMaking : Progress → Progress → Type 0
SameMaking before after = (after.packet ≡ before.packet) × (after.done ≡ before.done)

-- packets that were skipped, if any
abbrev pub Skipped : Bool → Reading → Reading → Type 0
Skipped false before after = after ≡ before
Skipped true before after = (before.packets ≢ []) × (after.ending ≡ before.ending)

-- whether the call at the end is made after an outcome
abbrev pub clean : Outcome → Bool
clean outcomes.Whole = true
clean (outcomes.Cut at) = true
clean _ = false

-- a function where the outcome is such
abbrev pub after_clean : Bool → Option FnId → Option FnId
after_clean true function = function
after_clean false function = None

-- the function that is still to be called at the end after an outcome
abbrev pub owed_after : Outcome → Progress → Option FnId
owed_after outcome progress =
    after_clean (clean outcome) (owed progress.done_given progress.done)

-- the call at the end is given now
pub record IsClosing (before after : Progress) (outcome : Outcome) (call : Call) : Type 0 where
  pub function : FnId
  pub owes : owed_after outcome before ≡ Some function
  pub call_is : call ≡ done_call function
  pub given : after.done_given ≡ true
  pub kept : (after.packet ≡ before.packet) × (after.done ≡ before.done)
  pub outcome_is : after.outcome ≡ before.outcome
  pub reads : (rest : List ℕ) → reading_of after.tail rest ≡ reading_of before.tail rest

-- nothing is owed after this outcome, and the capture has ended now
pub record IsClosed (before after : Progress) (outcome : Outcome) : Type 0 where
  pub nothing : owed_after outcome before ≡ None
  pub kept : (after.packet ≡ before.packet) × (after.done ≡ before.done)
  pub outcome_is : after.outcome ≡ outcome
  pub reads : (rest : List ℕ) → reading_of after.tail rest ≡ reading_of before.tail rest

-- the capture has ended now, and whether a call was left: that of a packet, or the one at the end
pub record IsEnded (before after : Progress) (outcome : Outcome) (more left : Bool) : Type 0 where
  pub left_is : left ≡ (more || is_some (owed_after outcome before))
  pub kept : (after.packet ≡ before.packet) × (after.done ≡ before.done)
  pub outcome_is : after.outcome ≡ outcome
  pub reads : (rest : List ℕ) → reading_of after.tail rest ≡ reading_of before.tail rest
