-- Captures that are read to their end at once.
use Rattle.std.specs.Prelude.{◌≡◌, ◌⊎◌, ℕ, true, List, Option}
use Rattle.hilti_base.specs.declared.names.FnId.{FnId}
use Rattle.hilti_pcap.specs.Endings.{CaptureEnding, Whole, Cut, Bad, IsRefused}
use Rattle.hilti_pcap.specs.Readings.{Reading}
use Rattle.hilti_tree.specs.declared.call.Call.{Call}
use Rattle.hilti_feed.specs.declared.tail.Outcome.{Outcome}
use Rattle.hilti_feed.specs.declared.whole.CaptureEnd.{CaptureEnd}
use Rattle.hilti_feed.specs.declared.whole.CaptureEnd.TheVariants as ends
use Rattle.hilti_feed.specs.Calls.{calls_of}
use Rattle.hilti_feed.specs.Feeds.{IsReadOf}
use Rattle.hilti_feed.specs.Progress.{is_lost}

-- an end as an ending
abbrev pub ending_of : CaptureEnd → CaptureEnding
ending_of ends.Whole = Whole
ending_of (ends.Cut at) = Cut at

-- these calls come of a capture, which ends so
pub record ComeOf (capture : List ℕ) (packet : FnId) (done : Option FnId) (calls : List Call)
    (ending : CaptureEnding) : Type 0 where
  pub reading : Reading
  pub read : IsReadOf capture reading
  pub calls_are : calls ≡ calls_of packet done reading
  pub ending_is : ending ≡ reading.ending

-- these are all calls that were left, unless a failed read ended it
abbrev pub IsAllUnlessLost : Outcome → (left calls : List Call) → Type 0
IsAllUnlessLost outcome left calls = (is_lost outcome ≡ true) ⊎ (left ≡ calls)

-- behind its header it ends badly at a place, with a code
pub record EndsBadly (capture : List ℕ) (at code : ℕ) : Type 0 where
  pub reading : Reading
  pub read : IsReadOf capture reading
  pub ends : reading.ending ≡ Bad at code

-- a capture is refused at a place with a code: by its header, or behind it
abbrev pub IsBadCapture : List ℕ → (at code : ℕ) → Type 0
IsBadCapture capture at code = IsRefused capture (Bad at code) ⊎ EndsBadly capture at code
