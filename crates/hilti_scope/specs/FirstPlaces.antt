-- Words with the place at which each was noted first.
use Rattle.std.specs.Prelude.{ℕ, cond, List, [], ◌∷◌, bytes_eq, Option, Some, None}

-- the place of a word
unfoldable pub place_of : List (List ℕ × ℕ) → List ℕ → Option ℕ
place_of [] bytes = None
place_of (entry ∷ more) bytes = cond (bytes_eq entry.0 bytes) (Some entry.1) (place_of more bytes)
