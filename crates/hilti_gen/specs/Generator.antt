-- Captures that are made of a seed: which flow each packet belongs to, and the bytes of each.
use Rattle.std.specs.Prelude.{ℕ, zero, suc, ◌+◌, ◌*◌, ◌/◌, ◌%◌, ◌^◌, List, [], ◌∷◌, ◌++◌}
use Rattle.std.specs.Int.{to_be_bytes, to_le_bytes, w16, w32, w64}
use Rattle.std.specs.List.{flat_map, range_with_len}

-- the next state of the generator
abbrev pub step : ℕ → ℕ
step x = (x * 6364136223846793005 + 1442695040888963407) % 2 ^ 64

-- the state of packet i, where packets are counted from 0
abbrev pub state : ℕ → ℕ → ℕ
state seed zero = step seed
state seed (suc i) = step (state seed i)

-- the flow of packet i, one of so many
abbrev pub flow : ℕ → ℕ → ℕ → ℕ
flow seed flows i = state seed i / 2 ^ 33 % flows

-- the link: its two addresses, and that IPv4 is behind them
abbrev pub link : List ℕ
link = 2 ∷ 0 ∷ 0 ∷ 0 ∷ 0 ∷ 1 ∷ 2 ∷ 0 ∷ 0 ∷ 0 ∷ 0 ∷ 2 ∷ 8 ∷ 0 ∷ []

-- IPv4 up to its addresses: 36 bytes of UDP, in one fragment, that live for 64 hops
abbrev pub ipv4 : List ℕ
ipv4 = 0x45 ∷ 0 ∷ 0 ∷ 0x24 ∷ 0 ∷ 0 ∷ 0 ∷ 0 ∷ 0x40 ∷ 0x11 ∷ 0 ∷ 0 ∷ []

-- from 10.0.x.y, where x and y are the bytes of the flow
abbrev pub source : ℕ → List ℕ
source f = 10 ∷ 0 ∷ f / 256 ∷ f % 256 ∷ []

-- to 10.1.0.1
abbrev pub destination : List ℕ
destination = 10 ∷ 1 ∷ 0 ∷ 1 ∷ []

-- UDP from a port of the flow to port 53: 16 bytes, without a checksum
abbrev pub udp : ℕ → List ℕ
udp f = to_be_bytes w16 (1024 + f) ++ 0 ∷ 0x35 ∷ 0 ∷ 0x10 ∷ 0 ∷ 0 ∷ []

-- the 50 bytes of packet i of flow f, which end with its number
unfoldable pub frame : ℕ → ℕ → List ℕ
frame f i = link ++ ipv4 ++ source f ++ destination ++ udp f ++ to_be_bytes w64 i

-- packet i comes a millisecond behind the one before it, in seconds and microseconds
abbrev pub seconds : ℕ → ℕ
seconds i = 1400000000 + i / 1000

abbrev pub microseconds : ℕ → ℕ
microseconds i = i % 1000 * 1000

-- what stands before the frame of packet i: its time, and how many bytes were captured of how many
unfoldable pub record_header : ℕ → List ℕ
record_header i =
    to_le_bytes w32 (seconds i) ++ to_le_bytes w32 (microseconds i)
    ++ to_le_bytes w32 50 ++ to_le_bytes w32 50

-- the 66 bytes of packet i
abbrev pub record_of : ℕ → ℕ → ℕ → List ℕ
record_of seed flows i = record_header i ++ frame (flow seed flows i) i

-- the 24 bytes of a little-endian capture of Ethernet with microseconds: the magic number, version
-- 2.4, no time zone, no accuracy, at most 262,144 bytes of a packet, and the network
unfoldable pub header : List ℕ
header =
    to_le_bytes w32 0xa1b2c3d4 ++ to_le_bytes w16 2 ++ to_le_bytes w16 4
    ++ to_le_bytes w32 0 ++ to_le_bytes w32 0 ++ to_le_bytes w32 262144 ++ to_le_bytes w32 1

-- the header, and behind it the records of the packets from 0 on, so many
unfoldable pub capture_of : ℕ → ℕ → ℕ → List ℕ
capture_of seed packets flows = header ++ flat_map (record_of seed flows) (range_with_len 0 packets)
