-- How captures end.
use Rattle.std.specs.Prelude.{◌≡◌, ◌⊎◌, ℕ, ◌<◌, ◌≤◌, List, length, take}
use Rattle.hilti_pcap.specs.Headers.{LacksMagic, HasOtherVersion}

-- it ends behind a record or the header, inside the record that begins at a place, or is faulty at
-- a place, with a code
pub data CaptureEnding : Type 0 where
  Whole : CaptureEnding
  Cut : ℕ → CaptureEnding
  Bad : ℕ → ℕ → CaptureEnding

-- how many bytes a capture may have
abbrev pub most : ℕ
most = 1073741824

-- the header is refused: fewer than 24 bytes (code 1), no magic number (2), another version (3)
abbrev pub IsRefused : List ℕ → CaptureEnding → Type 0
IsRefused capture ending =
    ((length capture < 24) × (ending ≡ Bad (length capture) 1))
    ⊎ ((24 ≤ length capture) × LacksMagic (take 24 capture) × (ending ≡ Bad 0 2))
    ⊎ ((24 ≤ length capture) × HasOtherVersion (take 24 capture) × (ending ≡ Bad 4 3))
