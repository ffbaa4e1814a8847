-- What stands at the front of some bytes.
use Rattle.std.specs.Prelude.{ℕ, List}
use Rattle.hilti_pcap.specs.declared.header.Header.{Header}
use Rattle.hilti_pcap.specs.declared.packet.Packet.{Packet}
use Rattle.hilti_pcap.specs.declared.record.Front.{Front}
use Rattle.hilti_pcap.specs.declared.record.Front.TheVariants as fronts
use Rattle.hilti_pcap.specs.declared.record.Record.{Record}
use Rattle.hilti_pcap.specs.Records.{HasRecord, IsPartial, IsTooLong}

-- the packet of a record that was found
abbrev pub packet_of : Record → Packet
packet_of found = record { time = found.time; bytes = found.bytes.now }

-- it is this, and what is found stands there
abbrev pub IsFront : Header → List ℕ → Front → Type 0
IsFront header bytes (fronts.Record found) =
    HasRecord header (packet_of found) bytes found.rest.now
IsFront header bytes fronts.Partial = IsPartial header bytes
IsFront header bytes (fronts.TooLong captured) = IsTooLong header captured bytes
