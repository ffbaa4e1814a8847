-- How a shelf lays out its files.
use Rattle.std.specs.Prelude.{◌≡◌, ℕ, ◌<◌, ◌≤◌, List, [], length, drop, slice_index_or, Option}
use Rattle.std.specs.Prelude.{Some, None, fold}
use Rattle.std.specs.FinMap.{empty, insert, get}
use Rattle.hilti_outside.specs.Contents.{FileMap}
use Rattle.hilti_outside.specs.declared.shelf.Entry.{Entry}
use Rattle.hilti_outside.specs.declared.shelf.Spot.{Spot}

-- each entry was put after those before it
abbrev pub files_of : List Entry → FileMap
files_of entries = fold (λ all entry. insert all entry.name entry.bytes) empty entries

-- the bytes of an entry
abbrev pub bytes_at : List Entry → ℕ → List ℕ
bytes_at entries at = (slice_index_or entries at (record { name = []; bytes = [] })).bytes

-- what is unread at a spot
abbrev pub rest_at : List Entry → Option Spot → List ℕ
rest_at entries None = []
rest_at entries (Some spot) = drop spot.read (bytes_at entries spot.entry)

-- a spot is in an entry, and not past its end
abbrev pub IsWithin : List Entry → Option Spot → Type 0
IsWithin entries None = Unit {0}
IsWithin entries (Some spot) =
    (spot.entry < length entries) × (spot.read ≤ length (bytes_at entries spot.entry))

-- the file of a name is the entry at a place, and nowhere where there is none
abbrev pub IsFoundAt : List Entry → List ℕ → Option ℕ → Type 0
IsFoundAt entries name None = get (files_of entries) name ≡ None
IsFoundAt entries name (Some at) =
    (at < length entries) × (get (files_of entries) name ≡ Some (bytes_at entries at))
