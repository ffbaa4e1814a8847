-- Records of capture files, one after another.
use Rattle.std.specs.Prelude.{◌≡◌, ◌⊎◌, ℕ, ◌+◌, ◌*◌, ◌^◌, ◌<◌, ◌≤◌, Bool, true, false, List, []}
use Rattle.std.specs.Prelude.{◌∷◌, ◌++◌, length}
use Rattle.hilti_pcap.specs.declared.header.Header.{Header}
use Rattle.hilti_pcap.specs.declared.packet.Packet.{Packet}
use Rattle.hilti_pcap.specs.declared.record.Fields.{Fields}
use Rattle.hilti_pcap.specs.Headers.{number}

-- nanoseconds from a fraction of a second
abbrev pub nanoseconds : Bool → ℕ → ℕ
nanoseconds true fraction = fraction
nanoseconds false fraction = fraction * 1000

-- the four numbers that a record begins with stand at the front, and these bytes behind them
pub record Begins (big : Bool) (fields : Fields) (bytes behind : List ℕ) : Type 0 where
  pub seconds_fit : fields.seconds < 2 ^ 32
  pub fraction_fits : fields.fraction < 2 ^ 32
  pub captured_fits : fields.captured < 2 ^ 32
  pub original_fits : fields.original < 2 ^ 32
  pub spelled : bytes ≡ number big fields.seconds ++ (number big fields.fraction
      ++ (number big fields.captured ++ (number big fields.original ++ behind)))

-- the record of a packet stands at the front, and these bytes behind it
pub record HasRecord (header : Header) (packet : Packet) (bytes behind : List ℕ) : Type 0 where
  pub fields : Fields
  pub begins : Begins header.big fields bytes (packet.bytes ++ behind)
  pub captured : fields.captured ≡ length packet.bytes
  pub time : packet.time
      ≡ fields.seconds * 1000000000 + nanoseconds header.nanos fields.fraction
  pub short : length packet.bytes ≤ 262144

-- the beginning of a record stands at the front, and its captured length is more than a record may
-- have
pub record IsTooLong (header : Header) (captured : ℕ) (bytes : List ℕ) : Type 0 where
  pub fields : Fields
  pub behind : List ℕ
  pub begins : Begins header.big fields bytes behind
  pub captured_is : fields.captured ≡ captured
  pub long : 262144 < captured

-- less than its beginning is there of a record, or less than what was captured
pub record IsCutBehind (header : Header) (bytes : List ℕ) : Type 0 where
  pub fields : Fields
  pub behind : List ℕ
  pub begins : Begins header.big fields bytes behind
  pub short : fields.captured ≤ 262144
  pub lacks : length behind < fields.captured

-- no whole record stands at the front, and nothing says that it would be too long
abbrev pub IsPartial : Header → List ℕ → Type 0
IsPartial header bytes = (length bytes < 16) ⊎ IsCutBehind header bytes

-- the records of these packets stand at the front, one after another, and these bytes behind them
abbrev pub HasRecords : Header → List Packet → List ℕ → List ℕ → Type 0
HasRecords header [] bytes behind = bytes ≡ behind
HasRecords header (packet ∷ packets) bytes behind =
    (next : List ℕ) × HasRecord header packet bytes next × HasRecords header packets next behind

-- no record follows
abbrev pub EndsRecords : Header → List ℕ → Type 0
EndsRecords header bytes =
    IsPartial header bytes ⊎ ((captured : ℕ) × IsTooLong header captured bytes)
