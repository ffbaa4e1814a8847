-- Headers of capture files in the pcap file format, version 2.4 (pcap-savefile(5)).
use Rattle.std.specs.Prelude.{◌≡◌, ℕ, ◌<◌, ◌^◌, Bool, true, false, List, ◌++◌, length, take, drop}
use Rattle.std.specs.Int.{to_le_bytes, to_be_bytes, w16, w32}
use Rattle.hilti_pcap.specs.declared.header.Header.{Header}

-- a number in four bytes, in big-endian or little-endian order
abbrev pub number : Bool → ℕ → List ℕ
number true n = to_be_bytes w32 n
number false n = to_le_bytes w32 n

-- a number in two bytes
abbrev pub short_number : Bool → ℕ → List ℕ
short_number true n = to_be_bytes w16 n
short_number false n = to_le_bytes w16 n

-- the magic number where fractions of a second are nanoseconds, and where they are microseconds
abbrev pub magic : Bool → ℕ
magic true = 0xa1b23c4d
magic false = 0xa1b2c3d4

-- its four spellings
abbrev pub spelled : (big nanos : Bool) → List ℕ
spelled big nanos = number big (magic nanos)

-- it stands at the front, spelled so
abbrev pub HasMagic : (big nanos : Bool) → List ℕ → Type 0
HasMagic big nanos bytes = take 4 bytes ≡ spelled big nanos

-- the version behind it is 2.4
abbrev pub HasVersion : (big : Bool) → List ℕ → Type 0
HasVersion big bytes = take 4 (drop 4 bytes) ≡ short_number big 2 ++ short_number big 4

-- 24 bytes: the magic number, the version, 12 bytes of which nothing is asked (time zone, accuracy
-- and snapshot length), and the network
pub record IsHeader (header : Header) (bytes : List ℕ) : Type 0 where
  pub whole : length bytes ≡ 24
  pub magic : HasMagic header.big header.nanos bytes
  pub version : HasVersion header.big bytes
  pub network : drop 20 bytes ≡ number header.big header.network
  pub fits : header.network < 2 ^ 32

-- the first four bytes are none of the four spellings of the magic number
abbrev pub LacksMagic : List ℕ → Type 0
LacksMagic bytes = (big nanos : Bool) → ¬ (HasMagic big nanos bytes)

-- the magic number is there, and another version than 2.4 stands behind it
abbrev pub HasOtherVersion : List ℕ → Type 0
HasOtherVersion bytes =
    (big : Bool) × (nanos : Bool) × HasMagic big nanos bytes × (¬ (HasVersion big bytes))
