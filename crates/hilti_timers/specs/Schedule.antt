-- Entries that wait for their times, by their serials.
use Rattle.std.specs.Prelude.{◌≡◌, ◌⊎◌, ℕ, ◌<◌, ◌≤◌}
use Rattle.std.specs.Option.{IsSomeAnd, MatchOption}
use Rattle.std.specs.Ordering.{nat_cmp}
use Rattle.std.specs.FinMap.{FinMap, get, insert, remove}

-- the due time and the entry of each serial
abbrev pub Schedule : Type 0 → Type 0
Schedule E = FinMap nat_cmp (ℕ × E)

-- the entry of a serial waits for a time
abbrev pub IsDueAt : {E : Type 0} → Schedule E → ℕ → ℕ → Type 0
IsDueAt schedule due serial = IsSomeAnd (get schedule serial) (λ waiting. waiting.0 ≡ due)

-- a due time is less than another, or equal to it and its serial not greater
abbrev pub IsNoLater : ℕ → ℕ → ℕ → ℕ → Type 0
IsNoLater due serial due' serial' = (due < due') ⊎ ((due ≡ due') × (serial ≤ serial'))

-- an entry is due at a time, and no entry that is due then is before it
pub record IsNextDue {E : Type 0} (schedule : Schedule E) (t due serial : ℕ) : Type 0 where
  pub waits : IsDueAt schedule due serial
  pub reached : due ≤ t
  pub least : (due' serial' : ℕ) → IsDueAt schedule due' serial' → due' ≤ t
      → IsNoLater due serial due' serial'

-- every entry waits for a later time
abbrev pub NothingIsDue : {E : Type 0} → Schedule E → ℕ → Type 0
NothingIsDue schedule t = (due serial : ℕ) → IsDueAt schedule due serial → t < due

-- the entry of a serial has another due time and serial, if there is one
abbrev pub IsRenewed : {E : Type 0} → Schedule E → Schedule E → ℕ → ℕ → ℕ → Type 0
IsRenewed before after serial due fresh =
    MatchOption (get before serial) (after ≡ before)
    (λ waiting. after ≡ insert (remove before serial) fresh (due, waiting.1))
