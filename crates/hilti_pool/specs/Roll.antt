-- The threads that ran, and what is told of one.
use Rattle.std.specs.Prelude.{ℕ, ◌<◌, ◌≤◌, List, length, slice_get, Some, ◌≡◌, ◌↔◌, ◌⊎◌}
use Rattle.std.specs.List.{Contains}
use Rattle.std.specs.List.Sorted.{IsStrictlyIncreasing}
use Rattle.hilti_core.specs.Sending.{Text}
use Rattle.hilti_core.specs.Machine.{Start}
use Rattle.hilti_core.specs.Core.{Core}
use Rattle.hilti_pool.specs.Threads.{calls_of}

-- the numbers of the threads that started a call, each once, and rising
pub record IsRoll (started : List Start) (roll : List ℕ) : Type 0 where
  pub rising : IsStrictlyIncreasing roll
  pub each : (r : ℕ) → Contains roll r ↔ (0 < calls_of r started)

-- one thread more is there, unless it was before
pub record Enrols (n : ℕ) (old new : List ℕ) : Type 0 where
  pub rising : IsStrictlyIncreasing new
  pub each : (r : ℕ) → Contains new r ↔ (Contains old r ⊎ (r ≡ n))

-- so many threads ran
pub record HasThreads (n : ℕ) (c : Core) : Type 0 where
  pub roll : List ℕ
  pub is : IsRoll c.started roll
  pub count : n ≡ length roll

-- the thread at a place of those that ran, how many calls it started, and its lines
pub record IsLogAt (place thread calls : ℕ) (lines : List Text) (c : Core) : Type 0 where
  pub roll : List ℕ
  pub is : IsRoll c.started roll
  pub at : slice_get roll place ≡ Some thread
  pub calls_are : calls ≡ calls_of thread c.started
  pub lines_are : lines ≡ (c.thread thread).log

-- no more than so many threads ran
pub record EndsBy (place : ℕ) (c : Core) : Type 0 where
  pub roll : List ℕ
  pub is : IsRoll c.started roll
  pub ends : length roll ≤ place
