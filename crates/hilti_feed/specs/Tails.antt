-- What is left of a capture while it is read.
use Rattle.std.specs.Prelude.{◌≡◌, ℕ, ◌+◌, ◌*◌, true, false, List, [], ◌∷◌}
use Rattle.std.specs.Prelude.{length, Option}
use Rattle.hilti_pcap.specs.Records.{IsPartial}
use Rattle.hilti_pcap.specs.Endings.{CaptureEnding, Whole, Cut, Bad}
use Rattle.hilti_pcap.specs.Readings.{Reading, reading_from, reading_within}
use Rattle.hilti_feed.specs.Known.{Related}
use Rattle.hilti_feed.specs.declared.tail.Tail.{Tail}
use Rattle.hilti_feed.specs.declared.tail.Source.{Source}
use Rattle.hilti_feed.specs.declared.tail.Source.TheVariants as sources
use Rattle.hilti_feed.specs.declared.tail.Outcome.{Outcome}
use Rattle.hilti_feed.specs.declared.tail.Outcome.TheVariants as outcomes
use Rattle.hilti_feed.specs.declared.pieces.Found.{Found}
use Rattle.hilti_feed.specs.declared.pieces.Found.TheVariants as founds

-- what is still read, with these bytes unread in the file
abbrev pub reading_by : Source → Tail → List ℕ → Reading
reading_by sources.Open tail rest =
    reading_within tail.reader.header tail.reader.at tail.reader.bytes tail.room rest
reading_by sources.Ended tail rest =
    reading_from tail.reader.header tail.reader.at tail.reader.bytes false
reading_by sources.Larger tail rest =
    reading_from tail.reader.header tail.reader.at tail.reader.bytes true

unfoldable pub reading_of : Tail → List ℕ → Reading
reading_of tail rest = reading_by tail.source tail rest

-- what is read stays, where what is unread is told
abbrev pub SameReading : Tail → Tail → Option (List ℕ) → Option (List ℕ) → Type 0
SameReading before after =
    Related (λ rest rest'. reading_of after rest' ≡ reading_of before rest)

-- nothing but this ending is left
abbrev pub ends : CaptureEnding → Reading
ends ending = record { packets = []; ending = ending }

-- the outcome is that of what is left to read; a failed read says nothing of it
abbrev pub Agrees : Outcome → Reading → Type 0
Agrees outcomes.Reading reading = Unit {0}
Agrees outcomes.Whole reading = reading ≡ ends Whole
Agrees (outcomes.Cut at) reading = reading ≡ ends (Cut at)
Agrees (outcomes.Bad at code) reading = reading ≡ ends (Bad at code)
Agrees outcomes.ReadFault reading = Unit {0}

-- a packet comes before what is left, or nothing is left but the outcome
abbrev pub Gives : Found → Reading → Reading → Type 0
Gives (founds.Packet packet) before after =
    before ≡ record { packets = packet ∷ after.packets; ending = after.ending }
Gives (founds.Ended outcome) before after = (after ≡ before) × Agrees outcome after

-- whether the end of the file is still to be found
abbrev pub open_weight : Source → ℕ
open_weight sources.Open = 1
open_weight sources.Ended = 0
open_weight sources.Larger = 0

-- a measure of what is left to do: it falls where a record is given, and where a piece is read
abbrev pub weight : Tail → ℕ
weight tail = length tail.reader.bytes + 2 * tail.room + open_weight tail.source

-- no whole record is held, and nothing has changed
pub record IsHolding (before after : Tail) : Type 0 where
  pub partial : IsPartial after.reader.header after.reader.bytes
  pub same : (rest : List ℕ) → reading_of after rest ≡ reading_of before rest
  pub weight_is : weight after ≡ weight before
