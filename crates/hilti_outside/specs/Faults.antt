-- Counts of faults, which rise at each fault and stay at the end of a `u64`.
use Rattle.std.specs.Prelude.{◌≡◌, ℕ, ◌+◌, ◌-◌, ◌^◌, ◌≤◌, min, Result, MatchResult}

-- at least one fault was counted
pub record Rose (before after : ℕ) : Type 0 where
  pub kept : before ≤ after
  pub risen : min (before + 1) (2 ^ 64 - 1) ≤ after

-- a call fails only where it counted a fault, and counts none where it succeeds
abbrev pub HasCause : {T E : Type 0} → ℕ → ℕ → Result T E → Type 0
HasCause before after result = MatchResult result (λ _. after ≡ before) (λ _. Rose before after)
