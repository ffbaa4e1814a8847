-- A pool whose journal is legal.
use Rattle.std.specs.Prelude.{Some, ◌≡◌}
use Rattle.hilti_core.specs.Sending.{Effect}
use Rattle.hilti_core.specs.Core.{Core}
use Rattle.hilti_pool.specs.State.{PoolState, core_of}
use Rattle.hilti_pool.specs.Entries.{AreEntries}

-- the journal is legal over the calls that were fed, each of which has its feed in it
pub record IsStanding {D : Type 0} (effect : D → Effect) (pool : PoolState D) : Type 0 where
  pub at : Core
  pub legal : core_of effect pool ≡ Some at
  pub entries : AreEntries pool.fed pool.journal pool.ended
