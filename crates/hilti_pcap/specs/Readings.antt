-- The packets and the ending of what stands behind a header, as a function of all these bytes.
use Rattle.std.specs.Prelude.{ℕ, ◌+◌, ◌-◌, ◌*◌, ◌++◌, ◌&&◌, zero, suc, Bool, true, false}
use Rattle.std.specs.Prelude.{List, [], ◌∷◌, length, take, drop, if◌then◌else◌, nat_lt, nat_le, nat_eq}
use Rattle.std.specs.Int.{from_le_bytes, from_be_bytes, w32}
use Rattle.hilti_pcap.specs.declared.header.Header.{Header}
use Rattle.hilti_pcap.specs.declared.packet.Packet.{Packet}
use Rattle.hilti_pcap.specs.declared.record.Fields.{Fields}
use Rattle.hilti_pcap.specs.Records.{nanoseconds}
use Rattle.hilti_pcap.specs.Endings.{CaptureEnding, Whole, Cut, Bad, most}

-- the number that four bytes write
abbrev pub number_in : Bool → List ℕ → ℕ
number_in true bytes = from_be_bytes w32 bytes
number_in false bytes = from_le_bytes w32 bytes

-- the four numbers that stand in the first 16 bytes
abbrev pub fields_in : Bool → List ℕ → Fields
fields_in big bytes = record {
  seconds = number_in big (take 4 bytes);
  fraction = number_in big (take 4 (drop 4 bytes));
  captured = number_in big (take 4 (drop 8 bytes));
  original = number_in big (take 4 (drop 12 bytes));
}

-- how many bytes the record at the front has
abbrev pub size_in : Header → List ℕ → ℕ
size_in header bytes = 16 + (fields_in header.big bytes).captured

-- whether it is a whole record
abbrev pub is_whole : Header → List ℕ → Bool
is_whole header bytes =
    nat_le (size_in header bytes) (length bytes) && nat_le (size_in header bytes) 262160

-- whether its beginning is there, and its captured length is more than a record may have
abbrev pub is_too_long : Header → List ℕ → Bool
is_too_long header bytes =
    nat_le 16 (length bytes) && nat_lt 262144 (fields_in header.big bytes).captured

-- its packet
abbrev pub packet_in : Header → List ℕ → Packet
packet_in header bytes = record {
  time = (fields_in header.big bytes).seconds * 1000000000
      + nanoseconds header.nanos (fields_in header.big bytes).fraction;
  bytes = take (fields_in header.big bytes).captured (drop 16 bytes);
}

-- the packets of the records at the front, and the bytes behind these records
pub record Split : Type 0 where
  pub packets : List Packet
  pub behind : List ℕ

-- a packet before them
abbrev pub preceded : Packet → Split → Split
preceded packet split = record { packets = packet ∷ split.packets; behind = split.behind }

-- of at most so many records
unfoldable pub split_up_to : ℕ → Header → List ℕ → Split
split_up_to zero header bytes = record { packets = []; behind = bytes }
split_up_to (suc n) header bytes =
    if is_whole header bytes
    then preceded (packet_in header bytes)
    (split_up_to n header (drop (size_in header bytes) bytes))
    else record { packets = []; behind = bytes }

-- of all records, which are no more than the bytes
abbrev pub split : Header → List ℕ → Split
split header bytes = split_up_to (length bytes) header bytes

-- packets, and how a capture ends behind them
pub record Reading : Type 0 where
  pub packets : List Packet
  pub ending : CaptureEnding

-- how it ends with these bytes behind its last record, where the capture has more bytes than it may
-- have, or not
abbrev pub ending_with : Header → (at : ℕ) → (behind : List ℕ) → (larger : Bool) → CaptureEnding
ending_with header at behind larger =
    if is_too_long header behind then Bad at 4
    else (if larger then Bad most 5 else (if nat_eq (length behind) 0 then Whole else Cut at))

-- these packets, and the ending behind them, where these bytes of all stand there
abbrev pub ending_behind :
    Header → (at : ℕ) → List Packet → (bytes behind : List ℕ) → Bool → Reading
ending_behind header at packets bytes behind larger = record {
  packets = packets;
  ending = ending_with header (at + (length bytes - length behind)) behind larger;
}

-- what is read of bytes from a place on, which are followed by more where the capture is too large
abbrev pub reading_from : Header → (at : ℕ) → List ℕ → (larger : Bool) → Reading
reading_from header at bytes larger = record {
  packets = (split header bytes).packets;
  ending = ending_with header (at + (length bytes - length (split header bytes).behind))
      (split header bytes).behind larger;
}

-- what is read of these bytes from a place on, of which so many are within what a capture may have
abbrev pub reading_within : Header → (at : ℕ) → (held : List ℕ) → (room : ℕ) → List ℕ → Reading
reading_within header at held room bytes =
    reading_from header at (held ++ take room bytes) (nat_lt room (length bytes))
