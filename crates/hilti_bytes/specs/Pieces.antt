-- Where pieces stand in bytes, and how long bytes may be.
use Rattle.std.specs.Prelude.{◌≡◌, ℕ, ◌+◌, ◌<◌, ◌≤◌, List, length, slice_index}

-- the most bytes of a value
abbrev pub most_bytes : ℕ
most_bytes = 16777216

-- the bytes of two values are more than one may have
abbrev pub AreTooMany : List ℕ → List ℕ → Type 0
AreTooMany a b = most_bytes < length a + length b

-- the needle stands in the bytes at a place
pub record StandsAt (bytes needle : List ℕ) (at : ℕ) : Type 0 where
  pub fits : at + length needle ≤ length bytes
  pub reads : (k : ℕ) → k < length needle → slice_index bytes (at + k) ≡ slice_index needle k
