-- What a worker may put.
use Rattle.std.specs.Prelude.{ℕ}
use Rattle.hilti_core.specs.declared.pieces.Segment.{Segment}
use Rattle.hilti_core.specs.Sending.{Effect}
use Rattle.hilti_core.specs.Body.{Runs}
use Rattle.hilti_pool.specs.State.{PoolState, InCore}
use Rattle.hilti_pool.specs.Standing.{IsStanding}
use Rattle.hilti_pool.specs.Work.{IsDone}

-- where the pool's journal is legal, the segment is the next one of the thread that the worker has
abbrev pub CanPut : {D V : Type 0} → (D → Effect) → (D → V → Runs) → PoolState D → ℕ → ℕ → V
    → Segment → Type 0
CanPut effect runs pool worker r vt segment = IsStanding effect pool
    → InCore effect pool (IsDone (effect pool.about) (runs pool.about) worker r vt segment)
