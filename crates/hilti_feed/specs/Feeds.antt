-- What contracts see of a feed.
use Rattle.std.specs.Prelude.{◌≡◌, ℕ, ◌-◌, List, [], Option, Some, None, unwrap_or, take, drop}
use Rattle.hilti_base.specs.declared.names.FnId.{FnId}
use Rattle.hilti_outside.specs.Contents.{FileMap}
use Rattle.hilti_pcap.specs.declared.header.Header.{Header}
use Rattle.hilti_pcap.specs.Headers.{IsHeader}
use Rattle.hilti_pcap.specs.Endings.{CaptureEnding, Whole, Cut, Bad, most}
use Rattle.hilti_pcap.specs.Readings.{Reading, reading_within}
use Rattle.hilti_tree.specs.declared.call.Call.{Call}
use Rattle.hilti_feed.specs.declared.tail.Outcome.{Outcome}
use Rattle.hilti_feed.specs.declared.tail.Outcome.TheVariants as outcomes
use Rattle.hilti_feed.specs.declared.progress.Progress.{Progress}
use Rattle.hilti_feed.specs.Calls.{calls_of}
use Rattle.hilti_feed.specs.Making.{Making}
use Rattle.hilti_feed.specs.Progress.{calls_left, ending_left}

-- the calls to come, told where the files are told
abbrev pub coming : Option FileMap → Option (List ℕ) → Progress → Option (List Call)
coming None rest progress = None
coming (Some all) rest progress = Some (calls_left progress (unwrap_or rest []))

-- how the capture ended or will end, told where the files are told
abbrev pub ending : Option FileMap → Option (List ℕ) → Progress → Option CaptureEnding
ending None rest progress = None
ending (Some all) rest progress = Some (ending_left progress (unwrap_or rest []))

-- what a feed was made with
abbrev pub making : Option FileMap → Option (List ℕ) → (lender : ℕ) → List ℕ → Progress → Making
making files rest lender name progress = record {
  name = name;
  packet = progress.packet;
  done = progress.done;
  files = files;
  ending = ending files rest progress;
  lender = lender;
}

-- an outcome is the ending, where that is told
abbrev pub Tells : Outcome → Option CaptureEnding → Type 0
Tells outcome None = Unit {0}
Tells outcomes.Reading (Some ending) = Unit {0}
Tells outcomes.Whole (Some ending) = ending ≡ Whole
Tells (outcomes.Cut at) (Some ending) = ending ≡ Cut at
Tells (outcomes.Bad at code) (Some ending) = ending ≡ Bad at code
Tells outcomes.ReadFault (Some ending) = Unit {0}

-- this is read of a whole capture, behind its header
pub record IsReadOf (capture : List ℕ) (reading : Reading) : Type 0 where
  pub header : Header
  pub begun : IsHeader header (take 24 capture)
  pub behind : reading ≡ reading_within header 24 [] (most - 24) (drop 24 capture)

-- the calls to come and the ending are those of the capture
pub record IsBegun (capture : List ℕ) (packet : FnId) (done : Option FnId)
    (coming : Option (List Call)) (ending : Option CaptureEnding) : Type 0 where
  pub reading : Reading
  pub read : IsReadOf capture reading
  pub calls : coming ≡ Some (calls_of packet done reading)
  pub ends : ending ≡ Some reading.ending

-- a feed was made with these
pub record IsMade (files : Option FileMap) (lender : ℕ) (name : List ℕ) (packet : FnId)
    (done : Option FnId) (making : Making) : Type 0 where
  pub name_is : making.name ≡ name
  pub packet_is : making.packet ≡ packet
  pub done_is : making.done ≡ done
  pub files_are : making.files ≡ files
  pub lender_is : making.lender ≡ lender
