-- The limits of a run.
use Rattle.std.specs.Prelude.{ℕ, ◌≤◌}

-- what a run may use: instructions of one call, calls of the whole run, and workers
pub record AreInRange (fuel calls workers : ℕ) : Type 0 where
  pub fuel_above : 1 ≤ fuel
  pub fuel_below : fuel ≤ 1000000000
  pub calls_above : 1 ≤ calls
  pub calls_below : calls ≤ 100000000
  pub workers_above : 1 ≤ workers
  pub workers_below : workers ≤ 64
