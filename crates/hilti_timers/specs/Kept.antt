-- How a manager keeps its entries: in a list of what waits.
use Rattle.std.specs.Prelude.{◌≡◌, ℕ, ◌<◌, ◌≤◌, List, [], ◌∷◌, map, length, slice_index_or, Option, Some, None}
use Rattle.std.specs.List.{All, Contains}
use Rattle.std.specs.Ordering.{nat_cmp}
use Rattle.std.specs.FinMap.{find, from_entries}
use Rattle.hilti_base.specs.declared.names.Serial.{Serial}
use Rattle.hilti_timers.specs.declared.manager.Waiting.{Waiting}
use Rattle.hilti_timers.specs.Schedule.{IsNoLater, Schedule}

-- what waits, under its serial
abbrev pub pair : {E : Type 0} → Waiting E → ℕ × (ℕ × E)
pair waiting = (waiting.serial.n, (waiting.due, waiting.entry))

-- the due time and the serial
abbrev pub stamp : {E : Type 0} → Waiting E → ℕ × ℕ
stamp waiting = (waiting.due, waiting.serial.n)

abbrev pub schedule_of : {E : Type 0} → List (Waiting E) → Schedule E
schedule_of entries = from_entries (map pair entries)

-- no serial stands twice
abbrev pub AreApart : {E : Type 0} → List (Waiting E) → Type 0
AreApart [] = Unit {0}
AreApart (waiting ∷ rest) = (find nat_cmp waiting.serial.n (map pair rest) ≡ None) × AreApart rest

-- the entry at a place has the serial
abbrev pub IsAt : {E : Type 0} → List (Waiting E) → ℕ → ℕ → Type 0
IsAt {E} entries at serial =
    (at < length entries) × ((d : Waiting E) → (slice_index_or entries at d).serial.n ≡ serial)

-- the least stamp that is reached at a time, if there is one
abbrev pub IsLeast : ℕ → List (ℕ × ℕ) → Option (ℕ × Serial) → Type 0
IsLeast t stamps None = All (λ s. t < s.0) stamps
IsLeast t stamps (Some best) =
    Contains stamps (best.0, best.1.n) × (best.0 ≤ t)
    × All (λ s. s.0 ≤ t → IsNoLater best.0 best.1.n s.0 s.1) stamps
