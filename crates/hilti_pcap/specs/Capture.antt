-- Captures in little-endian order with fractions of microseconds.
use Rattle.std.specs.Prelude.{◌≡◌, ℕ, ◌≤◌, false, List, [], ◌++◌, length}
use Rattle.hilti_pcap.specs.declared.header.Header.{Header}
use Rattle.hilti_pcap.specs.declared.packet.Packet.{Packet}
use Rattle.hilti_pcap.specs.Headers.{IsHeader}
use Rattle.hilti_pcap.specs.Records.{HasRecords}

-- a header in that order, with such fractions
pub record IsPlainHeader (header : Header) (bytes : List ℕ) : Type 0 where
  pub begun : IsHeader header bytes
  pub little : header.big ≡ false
  pub micros : header.nanos ≡ false

-- such a header and the records of these packets
pub record HasPackets (capture : List ℕ) (packets : List Packet) : Type 0 where
  pub header : Header
  pub front : List ℕ
  pub records : List ℕ
  pub parts : capture ≡ front ++ records
  pub begun : IsPlainHeader header front
  pub read : HasRecords header packets records []
  pub few : length packets ≤ 1000000
  pub within : length capture ≤ 1073741824
