-- What a reader of records in pieces holds and answers.
use Rattle.std.specs.Prelude.{◌≡◌, ◌≢◌, ℕ, ◌+◌, List, [], ◌∷◌, ◌++◌, length}
use Rattle.hilti_pcap.specs.declared.header.Header.{Header}
use Rattle.hilti_pcap.specs.declared.packet.Packet.{Packet}
use Rattle.hilti_pcap.specs.declared.reader.Next.{Next}
use Rattle.hilti_pcap.specs.declared.reader.Next.TheVariants as nexts
use Rattle.hilti_pcap.specs.declared.reader.Ending.{Ending}
use Rattle.hilti_pcap.specs.declared.reader.Ending.TheVariants as endings
use Rattle.hilti_pcap.specs.Records.{HasRecord, HasRecords, IsPartial, IsTooLong}

-- the bytes that are held, and where the first of them stands in the capture
pub record Held : Type 0 where
  pub header : Header
  pub at : ℕ
  pub bytes : List ℕ

-- behind the header, where nothing was fed yet
abbrev pub begun : Header → Held
begun header = record { header = header; at = 24; bytes = [] }

-- these bytes were added at the end
abbrev pub fed : List ℕ → Held → Held
fed piece held = record held { bytes = held.bytes ++ piece }

-- an answer to what comes next, and what is held after it
abbrev pub Answers : Held → Next → Held → Type 0
Answers before (nexts.Packet packet) after =
    HasRecord before.header packet before.bytes after.bytes
    × (after.header ≡ before.header) × (after.at ≡ before.at + (16 + length packet.bytes))
Answers before nexts.More after = IsPartial before.header before.bytes × (after ≡ before)
Answers before (nexts.TooLong at captured) after =
    IsTooLong before.header captured before.bytes × (at ≡ before.at) × (after ≡ before)

-- how the capture ends, where what is held is no whole record
abbrev pub Finishes : Held → Ending → Type 0
Finishes held endings.Whole = held.bytes ≡ []
Finishes held (endings.Cut at) = (held.bytes ≢ []) × (at ≡ held.at)

-- a piece is fed, or what comes next is asked
pub data Step : Type 0 where
  Fed : List ℕ → Step
  Asked : Next → Step

-- these steps lead from what is held to what is held after them
abbrev pub Run : Held → List Step → Held → Type 0
Run before [] after = before ≡ after
Run before (Fed piece ∷ steps) after = Run (fed piece before) steps after
Run before (Asked answer ∷ steps) after =
    (between : Held) × Answers before answer between × Run between steps after

-- all bytes that were fed
abbrev pub fed_in : List Step → List ℕ
fed_in [] = []
fed_in (Fed piece ∷ steps) = piece ++ fed_in steps
fed_in (Asked answer ∷ steps) = fed_in steps

-- all packets that were given
abbrev pub given_in : List Step → List Packet
given_in [] = []
given_in (Fed piece ∷ steps) = given_in steps
given_in (Asked (nexts.Packet packet) ∷ steps) = packet ∷ given_in steps
given_in (Asked nexts.More ∷ steps) = given_in steps
given_in (Asked (nexts.TooLong at captured) ∷ steps) = given_in steps

-- what was given is the records, one after another, of all bytes that were fed, and what is held
-- stands behind them
abbrev pub IsReadInPieces : Header → List Step → Held → Type 0
IsReadInPieces header steps after = (after.header ≡ header)
    × HasRecords header (given_in steps) (fed_in steps) after.bytes
    × (after.at + length after.bytes ≡ 24 + length (fed_in steps))
